use Rattle.std.proofs.Common.{◌≡◌, ℕ, ◌<◌, get_or, false}
use Rattle.fixed_num.specs.Decimal.{is_point}
use Rattle.fixed_num.proofs.decimal.point_place.Given as goal

abbrev pub invariant-loop-i : goal.invariant-loop-i
invariant-loop-i l = (k : ℕ) → k < l.i → is_point (get_or l.bytes k 0) ≡ false
