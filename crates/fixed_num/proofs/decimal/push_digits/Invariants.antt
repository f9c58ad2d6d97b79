use Rattle.std.proofs.Common.{◌≡◌, take}
use Rattle.std.specs.List.{fold}
use Rattle.fixed_num.specs.Decimal.{push_digit, capped}
use Rattle.fixed_num.proofs.decimal.push_digits.Given as goal

abbrev pub invariant-loop-digit : goal.invariant-loop-digit
invariant-loop-digit l = l.number ≡ capped (fold push_digit l.start (take l.digit-index l.digits))
