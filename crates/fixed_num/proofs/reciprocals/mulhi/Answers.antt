use Rattle.fixed_num.specs.Reciprocals.{upper}
use Rattle.fixed_num.proofs.Fits.{size}
use Rattle.fixed_num.proofs.Inverses.{upper_size}
use Rattle.fixed_num.proofs.Shifts.{upper_is}
use Rattle.fixed_num.proofs.reciprocals.mulhi.Goals as goal

pub returns-clause-value : goal.returns-clause-value
unfolding upper
returns-clause-value c = upper_is c.args.a c.args.b c.ranges.a c.ranges.b

pub returns-clause-size : goal.returns-clause-size
unfolding upper
returns-clause-size c =
    rw (upper_is c.args.a c.args.b c.ranges.a c.ranges.b) (upper_size c.args.a c.args.b (size c.args.b c.ranges.b))
