use Rattle.std.proofs.Common.{arith, to_z-of_z, pos}
use Rattle.fixed_num.proofs.Nearest.{size}
use Rattle.fixed_num.proofs.Inverses.{divided_is, billion}
use Rattle.fixed_num.proofs.reciprocals.billionth.Goals as goal

pub returns-clause-value : goal.returns-clause-value
returns-clause-value c =
    grind (arith, to_z-of_z, divided_is c.args.x (pos 1000000000) (pos 4951760157141521100) 27 billion c.requires)

pub returns-clause-size : goal.returns-clause-size
returns-clause-size c =
    grind (arith, to_z-of_z, divided_is c.args.x (pos 1000000000) (pos 4951760157141521100) 27 billion c.requires, size c.args.x (pos 1000000000) billion.positive)
