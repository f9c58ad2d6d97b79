use Rattle.std.proofs.Common.{arith, to_z-of_z, pos}
use Rattle.scheme.proofs.CalmJunctions.{flow_told}
use Rattle.scheme.proofs.calm_nodes.flow_by.Goals as goal

pub returns-clause-value : goal.returns-clause-value
returns-clause-value c =
    λ e. flow_told _ c.args.head c.args.arrival.now (pos c.args.prepared.now.b) e (grind (arith, to_z-of_z, c.single_flow.ensures.value))
