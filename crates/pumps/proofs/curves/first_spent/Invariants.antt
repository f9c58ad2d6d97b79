use Rattle.std.proofs.Common.{◌≡◌, ℕ, ◌<◌, false}
use Rattle.case_model.specs.Limits.{entry_at}
use Rattle.pumps.specs.Pumps.{is_spent}
use Rattle.pumps.proofs.curves.first_spent.Given as goal

abbrev pub invariant-loop-i : goal.invariant-loop-i
invariant-loop-i l = (k : ℕ) → k < l.i → is_spent l.e l.b l.speed (entry_at l.points k) ≡ false
