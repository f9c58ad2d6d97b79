use Rattle.std.proofs.Common.{arith, to_z-of_z}
use Rattle.pumps.proofs.Scales.{product_fits, product_below}
use Rattle.pumps.proofs.crossings.product.Goals as goal

pub returns-clause-size : goal.returns-clause-size
returns-clause-size c =
    let f = product_fits c.args.x c.args.y c.requires.x_in c.requires.y_in in
    grind (arith, to_z-of_z, product_below c.args.x c.args.y c.requires.x_in c.requires.y_in)
