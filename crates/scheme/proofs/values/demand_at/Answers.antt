use Rattle.std.proofs.Common.{arith, to_z-of_z}
use Rattle.scheme.proofs.TimeTables.{flow_in}
use Rattle.scheme.proofs.values.demand_at.Goals as goal

pub returns-clause-limits : goal.returns-clause-limits
returns-clause-limits c =
    let h = flow_in c.args.case.now c.args.demand.now c.value.result c.requires.read c.requires.demand_in c.value.ensures.within in
    grind (arith, to_z-of_z, h)
