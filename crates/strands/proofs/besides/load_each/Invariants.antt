use Rattle.std.proofs.Common.{ℕ, ◌-◌}
use Rattle.case_model.specs.Meaning.{Meaning}
use Rattle.fronts.specs.Fronts.{Holds}
use Rattle.fronts.specs.Stretches.{AreSamePlaces}
use Rattle.strands.specs.Beside.{outer_side, taken_front, taken_since}
use Rattle.strands.specs.Blocks.{HasPoints}
use Rattle.strands.proofs.besides.load_each.Given as goal

abbrev pub invariant-loop-distance : goal.invariant-loop-distance
invariant-loop-distance g l = record {
  same : AreSamePlaces l.fn.stretch l.stretch;
  holds : (law : Meaning) (since front : ℕ → ℕ)
      → HasPoints l.fn.window (outer_side law l.fn.stretch l.fn.right l.fn.at l.fn.start)
      (g.B.Block.tells l.block)
      → Holds law since front l.fn.stretch
      → Holds law (taken_since l.fn.right l.fn.at l.fn.start (l.distance - 1) since)
      (taken_front l.fn.right l.fn.at l.fn.window l.fn.start (l.distance - 1) front) l.stretch;
}
