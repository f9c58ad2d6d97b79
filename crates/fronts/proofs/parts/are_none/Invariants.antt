use Rattle.std.proofs.Common.{◌≡◌, ℕ, ◌<◌}
use Rattle.case_model.specs.declared.points.Point.{Point}
use Rattle.fronts.specs.Cavities.{cavity_at, with_cavity}
use Rattle.fronts.proofs.parts.are_none.Given as goal

abbrev pub invariant-loop-cavity : goal.invariant-loop-cavity
invariant-loop-cavity l = (k : ℕ) → k < l.cavity-index → (p : Point) → with_cavity p (cavity_at l.cavities k) ≡ p
