use Rattle.std.proofs.Common.{arith, to_z-of_z}
use Rattle.fixed_num.proofs.RootLaws.{root-only}
use Rattle.fixed_num.proofs.roots.root.Goals as goal

pub returns-clause-value : goal.returns-clause-value
returns-clause-value c = grind (arith, to_z-of_z, root-only c.args.n c.cast_signed.result)
