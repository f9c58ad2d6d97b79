use Rattle.std.proofs.Common.{arith, to_z-of_z}
use Rattle.scheme.proofs.TimeTables.{gas_in}
use Rattle.scheme.proofs.starts.gas_value.Goals as goal

pub returns-clause-limits : goal.returns-clause-limits
returns-clause-limits c =
    let h = gas_in c.args.points.now c.interp.result (record { some = c.requires.some; entries = c.requires.points_in; sorted = c.requires.order }) c.interp.ensures.within in
    grind (arith, to_z-of_z, h)
