use Rattle.std.proofs.Common.{arith, to_z-of_z}
use Rattle.valves.proofs.Quotients.{half_fits, half_below}
use Rattle.valves.proofs.orifices.half_of_square.Goals as goal
use Rattle.fixed_num.proofs.Fits.{fits}

pub overflow_cast-result : goal.overflow_cast-result
overflow_cast-result c =
    let f = half_fits c.args.b c.args.q0 c.args.h0 c.args.square c.requires.orifice c.requires.square_in in
    grind (arith, to_z-of_z, fits c.rnd.result, half_below c.args.b c.args.q0 c.args.w c.args.h0 c.args.square c.rnd.result c.requires.orifice c.requires.flow c.requires.squared)

pub returns-clause-value : goal.returns-clause-value
returns-clause-value c =
    let f = half_fits c.args.b c.args.q0 c.args.h0 c.args.square c.requires.orifice c.requires.square_in in
    grind (arith, to_z-of_z, fits c.rnd.result, half_below c.args.b c.args.q0 c.args.w c.args.h0 c.args.square c.rnd.result c.requires.orifice c.requires.flow c.requires.squared)

pub returns-clause-size : goal.returns-clause-size
returns-clause-size c =
    let f = half_fits c.args.b c.args.q0 c.args.h0 c.args.square c.requires.orifice c.requires.square_in in
    grind (arith, to_z-of_z, fits c.rnd.result, half_below c.args.b c.args.q0 c.args.w c.args.h0 c.args.square c.rnd.result c.requires.orifice c.requires.flow c.requires.squared)
