use Rattle.std.proofs.Common.{◌≡◌, ℕ, ◌<◌}
use Rattle.fronts.specs.Cavities.{cavity_at, no_cavity}
use Rattle.fronts.proofs.parts.clear.Given as goal

abbrev pub invariant-loop-cavity : goal.invariant-loop-cavity
invariant-loop-cavity l = (k : ℕ) → k < l.cavity-index → cavity_at l.cavities k ≡ no_cavity
