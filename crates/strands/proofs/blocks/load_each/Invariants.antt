use Rattle.std.proofs.Common.{ℕ, ◌-◌}
use Rattle.case_model.specs.Meaning.{Meaning}
use Rattle.fronts.specs.Fronts.{Holds, ever}
use Rattle.fronts.specs.Stretches.{AreSamePlaces, count_of}
use Rattle.strands.specs.Blocks.{HasPoints, IsBare, loading, station_side}
use Rattle.strands.proofs.blocks.load_each.Given as goal

abbrev pub invariant-loop-distance : goal.invariant-loop-distance
invariant-loop-distance g l = record {
  same : AreSamePlaces l.fn.stretch l.stretch;
  holds : (law : Meaning) (front : ℕ → ℕ)
      → HasPoints l.fn.window (station_side law l.fn.stretch l.fn.left l.fn.window l.fn.start)
      (g.B.Block.tells l.block)
      → IsBare l.fn.left (count_of l.fn.stretch - 1) l.fn.window l.fn.start front
      → Holds law ever front l.fn.stretch
      → Holds law ever (loading l.fn.left (count_of l.fn.stretch - 1) l.fn.window l.fn.start
      l.distance front) l.stretch;
}
