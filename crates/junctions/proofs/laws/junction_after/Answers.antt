use Rattle.std.proofs.Common.{arith, to_z-of_z}
use Rattle.junctions.proofs.laws.junction_after.Goals as goal

pub returns-clause-state : goal.returns-clause-state
returns-clause-state c = grind (arith, to_z-of_z, c.kept_or_closed.ensures.state, c.cavity_volume-after.ensures.value, c.write_inflows.ensures.sum)
