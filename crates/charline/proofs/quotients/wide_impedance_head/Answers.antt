use Rattle.std.proofs.Common.{arith, to_z-of_z}
use Rattle.charline.specs.Characteristics.{impedance_head}
use Rattle.charline.proofs.Sizes.{fits_product, head_below}
use Rattle.charline.proofs.quotients.wide_impedance_head.Goals as goal
use Rattle.fixed_num.proofs.Fits.{fits}

pub overflow_cast-result : goal.overflow_cast-result
overflow_cast-result c =
    let f = fits_product c.args.b c.args.q c.requires.impedance c.requires.flow_in in
    grind (arith, to_z-of_z, fits c.rnd.result, head_below c.args.b c.args.q c.rnd.result c.requires.impedance c.requires.flow_in)

pub returns-clause-value : goal.returns-clause-value
unfolding impedance_head
returns-clause-value c =
    let f = fits_product c.args.b c.args.q c.requires.impedance c.requires.flow_in in
    grind (arith, to_z-of_z, fits c.rnd.result, head_below c.args.b c.args.q c.rnd.result c.requires.impedance c.requires.flow_in)

pub returns-clause-size : goal.returns-clause-size
returns-clause-size c =
    let f = fits_product c.args.b c.args.q c.requires.impedance c.requires.flow_in in
    grind (arith, to_z-of_z, fits c.rnd.result, head_below c.args.b c.args.q c.rnd.result c.requires.impedance c.requires.flow_in)
