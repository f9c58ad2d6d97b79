use Rattle.std.proofs.Common.{arith, to_z-of_z}
use Rattle.pumps.specs.Pumps.{net_head}
use Rattle.pumps.proofs.curves.net_head.Goals as goal

pub returns : goal.returns
unfolding net_head
returns c = grind (arith, to_z-of_z, c.lost.ensures.value)
