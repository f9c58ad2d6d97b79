use Rattle.std.proofs.Common.{arith, to_z-of_z}
use Rattle.scheme.proofs.TimeTables.{speed_in}
use Rattle.scheme.proofs.values.speed_at.Goals as goal

pub returns-clause-limits : goal.returns-clause-limits
returns-clause-limits c =
    let h = speed_in c.args.case.now c.args.speed.now c.value.result c.requires.read c.requires.speed_in c.value.ensures.within in
    record { low = grind (arith, to_z-of_z, h.low); high = grind (arith, to_z-of_z, h.high) }
