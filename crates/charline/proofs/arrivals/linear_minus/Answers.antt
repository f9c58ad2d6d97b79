use Rattle.std.proofs.Common.{arith, to_z-of_z}
use Rattle.charline.specs.Characteristics.{arrive_minus}
use Rattle.charline.proofs.arrivals.linear_minus.Goals as goal

pub returns-in-Good-clause-value : goal.returns-in-Good-clause-value
unfolding arrive_minus
returns-in-Good-clause-value c = grind (arith, to_z-of_z)
