use Rattle.std.proofs.Common.{arith, to_z-of_z}
use Rattle.scheme.proofs.TimeTables.{opening_in}
use Rattle.scheme.proofs.values.opening_at.Goals as goal

pub returns-clause-limits : goal.returns-clause-limits
returns-clause-limits c =
    let h = opening_in c.args.case.now c.args.opening.now c.value.result c.requires.read c.requires.opening_in c.value.ensures.within in
    record { low = grind (arith, to_z-of_z, h.low); high = grind (arith, to_z-of_z, h.high) }
