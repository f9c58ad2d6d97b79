use Rattle.std.proofs.Common.{◌≡◌, ℕ, ◌<◌}
use Rattle.fronts.specs.Fronts.{spot}
use Rattle.fronts.specs.Stretches.{AreSamePlaces, kept}
use Rattle.strands.proofs.starts.put_starts.Given as goal

abbrev pub invariant-loop-place : goal.invariant-loop-place
invariant-loop-place g l = record {
  same : AreSamePlaces l.fn.stretch l.stretch;
  put : (x : ℕ) → x < l.place → kept l.stretch 0 x ≡ spot (g.L.Law.meaning l.law) l.fn.stretch 0 x;
}
