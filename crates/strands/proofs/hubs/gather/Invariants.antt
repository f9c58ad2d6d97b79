use Rattle.std.proofs.Common.{◌≡◌, ℕ, ◌<◌, length, get_or}
use Rattle.case_model.specs.declared.points.Point.{Point}
use Rattle.strands.specs.Spokes.{IsBeside}
use Rattle.strands.specs.declared.spokes.Spoke.{Spoke}
use Rattle.strands.proofs.hubs.gather.Given as goal

abbrev pub invariant-loop-i : goal.invariant-loop-i
invariant-loop-i l = record {
  each : length l.near ≡ length l.spokes;
  beside : (i : ℕ) (d : Point) (e : Spoke) → i < l.i → IsBeside l.step (get_or l.spokes i e)
      (get_or l.near i d);
}
