use Rattle.std.proofs.Common.{◌-◌, arith, to_z-of_z}
use Rattle.fixed_num.proofs.Nearest.{size}
use Rattle.fixed_num.proofs.Inverses.{divided_is}
use Rattle.fixed_num.proofs.reciprocals.Reciprocal.divided.Goals as goal

pub returns-clause-value : goal.returns-clause-value
returns-clause-value c =
    let now = c.args.self.now in
    grind (arith, to_z-of_z, divided_is c.args.x now.divisor now.factor (now.places - 1) now.exact c.requires)

pub returns-clause-size : goal.returns-clause-size
returns-clause-size c =
    let now = c.args.self.now in
    grind (arith, to_z-of_z, divided_is c.args.x now.divisor now.factor (now.places - 1) now.exact c.requires, size c.args.x now.divisor now.exact.positive)
