use Rattle.std.proofs.Common.{arith, to_z-of_z}
use Rattle.junctions.specs.Sums.{admittance}
use Rattle.scheme.proofs.calm_nodes.weigh.Goals as goal

pub returns-in-Some-clause-weight : goal.returns-in-Some-clause-weight
unfolding admittance
returns-in-Some-clause-weight c = grind (arith, to_z-of_z, c.in-Some.ensures.impedance, c.weight.ensures.value)
