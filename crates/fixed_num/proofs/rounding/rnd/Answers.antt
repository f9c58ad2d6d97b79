use Rattle.std.proofs.Common.{arith, to_z-of_z}
use Rattle.fixed_num.proofs.Nearest.{nearest, only, size}
use Rattle.fixed_num.proofs.rounding.rnd.Goals as goal

pub returns-clause-nearest : goal.returns-clause-nearest
returns-clause-nearest c = grind (arith, to_z-of_z, nearest c.args.n c.args.d c.requires.positive)

pub returns-clause-only : goal.returns-clause-only
returns-clause-only c = λ x h. grind (arith, to_z-of_z, only c.args.n c.args.d x c.requires.positive h)

pub returns-clause-size : goal.returns-clause-size
returns-clause-size c = grind (arith, to_z-of_z, size c.args.n c.args.d c.requires.positive)
