use Rattle.std.proofs.Common.{arith, ◌∙◌}
use Rattle.fixed_num.proofs.Digits.{sized_by_parts}
use Rattle.fixed_num.proofs.decimal.size.Goals as goal

pub returns-clause-value : goal.returns-clause-value
returns-clause-value c =
    c.scale.ensures.value ∙ sized_by_parts c.args.places c.push_digits.result c.push_digits-number.result c.args.whole.now c.args.fraction.now (omega arith) c.push_digits.ensures.value c.push_digits-number.ensures.value
