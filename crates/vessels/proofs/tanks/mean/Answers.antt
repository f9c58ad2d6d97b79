use Rattle.std.proofs.Common.{arith, to_z-of_z}
use Rattle.vessels.proofs.tanks.mean.Goals as goal

pub returns : goal.returns
returns c = grind (arith, to_z-of_z)
