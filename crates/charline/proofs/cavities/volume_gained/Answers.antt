use Rattle.std.proofs.Common.{arith, to_z-of_z}
use Rattle.charline.proofs.Sizes.{gained_product, gained_below}
use Rattle.charline.proofs.cavities.volume_gained.Goals as goal

pub returns-clause-value : goal.returns-clause-value
returns-clause-value c =
    let f = gained_product c.args.dt c.args.growth c.requires.least c.requires.most c.requires.growth_in in
    grind (arith, to_z-of_z, gained_below c.args.dt c.args.growth c.rnd.result c.requires.least c.requires.most c.requires.growth_in)

pub returns-clause-size : goal.returns-clause-size
returns-clause-size c =
    let f = gained_product c.args.dt c.args.growth c.requires.least c.requires.most c.requires.growth_in in
    grind (arith, to_z-of_z, gained_below c.args.dt c.args.growth c.rnd.result c.requires.least c.requires.most c.requires.growth_in)
