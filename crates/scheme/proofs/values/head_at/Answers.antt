use Rattle.std.proofs.Common.{arith, to_z-of_z}
use Rattle.scheme.proofs.TimeTables.{head_in}
use Rattle.scheme.proofs.values.head_at.Goals as goal

pub returns-clause-limits : goal.returns-clause-limits
returns-clause-limits c =
    let h = head_in c.args.case.now c.args.head.now c.value.result c.requires.read c.requires.head_in c.value.ensures.within in
    grind (arith, to_z-of_z, h)
