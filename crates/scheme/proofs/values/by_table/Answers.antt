use Rattle.std.proofs.Common.{arith, to_z-of_z}
use Rattle.scheme.proofs.TimeTables.{value_cut}
use Rattle.scheme.proofs.values.by_table.Goals as goal

pub returns-clause-value : goal.returns-clause-value
returns-clause-value c = grind (arith, to_z-of_z, value_cut c.args.points.now c.args.step c.args.dt c.requires.least c.requires.table)

pub returns-clause-within : goal.returns-clause-within
returns-clause-within c = λ low high h.
    let b = c.interp.ensures.within low high h in
    record { low = grind (arith, to_z-of_z, b.low); high = grind (arith, to_z-of_z, b.high) }
