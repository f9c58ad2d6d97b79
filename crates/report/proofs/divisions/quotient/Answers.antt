use Rattle.std.proofs.Common.{arith, to_z-of_z}
use Rattle.report.proofs.Numbers.{quotient-small}
use Rattle.report.proofs.divisions.quotient.Goals as goal

pub returns-clause-size : goal.returns-clause-size
returns-clause-size c = grind (arith, to_z-of_z, quotient-small c.args.n c.args.d)
