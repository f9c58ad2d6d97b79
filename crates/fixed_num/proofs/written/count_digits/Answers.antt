use Rattle.std.proofs.Common.{arith}
use Rattle.fixed_num.proofs.Put.{length_one, length_some, length_step, length_few}
use Rattle.fixed_num.proofs.written.count_digits.Goals as goal

pub overflow_add-count : goal.overflow_add-count
overflow_add-count c = record { fits = omega (arith, length_few c.args.n c.requires, length_some c.loop-rest.rest (omega arith)) }

pub loop-rest-preserved : goal.loop-rest-preserved
loop-rest-preserved c = record {
  size = omega arith;
  count = omega (arith, length_step c.loop-rest.rest (omega arith) (omega arith));
}

pub returns-clause-value : goal.returns-clause-value
returns-clause-value c = omega (arith, length_one c.loop-rest.rest (omega arith))

pub returns-clause-few : goal.returns-clause-few
returns-clause-few c = omega (arith, length_few c.args.n c.requires, length_one c.loop-rest.rest (omega arith))
