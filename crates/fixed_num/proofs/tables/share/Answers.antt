use Rattle.std.proofs.Common.{arith, to_z-of_z}
use Rattle.fixed_num.proofs.Between.{part_size, fits, fits_product}
use Rattle.fixed_num.proofs.tables.share.Goals as goal

pub overflow_cast-result : goal.overflow_cast-result
overflow_cast-result c =
    let f = fits_product c.args.difference c.args.at c.args.width c.requires.difference c.requires.low c.requires.high c.requires.width in
    let s = part_size c.args.difference c.args.at c.args.width c.requires.low c.requires.high in
    grind (arith, to_z-of_z, fits c.rnd.result)

pub returns-clause-value : goal.returns-clause-value
returns-clause-value c =
    let f = fits_product c.args.difference c.args.at c.args.width c.requires.difference c.requires.low c.requires.high c.requires.width in
    let s = part_size c.args.difference c.args.at c.args.width c.requires.low c.requires.high in
    grind (arith, to_z-of_z, fits c.rnd.result)

pub returns-clause-size : goal.returns-clause-size
returns-clause-size c =
    let f = fits_product c.args.difference c.args.at c.args.width c.requires.difference c.requires.low c.requires.high c.requires.width in
    let s = part_size c.args.difference c.args.at c.args.width c.requires.low c.requires.high in
    grind (arith, to_z-of_z, fits c.rnd.result)
