use Rattle.std.proofs.Common.{arith}
use Rattle.fixed_num.proofs.Shifts.{factor_fits}
use Rattle.fixed_num.proofs.reciprocals.factor.Goals as goal

pub overflow_cast-result-3 : goal.overflow_cast-result-3
overflow_cast-result-3 c = record {
  fits = omega (arith, factor_fits c.args.divisor c.args.shift c.requires.high c.requires.small c.requires.over);
}

pub returns-clause-fits : goal.returns-clause-fits
returns-clause-fits c = factor_fits c.args.divisor c.args.shift c.requires.high c.requires.small c.requires.over
