use Rattle.std.proofs.Common.{arith, to_z-of_z}
use Rattle.pumps.specs.Pumps.{crossing}
use Rattle.pumps.proofs.crossings.crossing.Goals as goal

pub returns : goal.returns
unfolding crossing
returns c = grind (arith, to_z-of_z, c.line_flow.ensures)
