use Rattle.std.proofs.Common.{arith, to_z-of_z}
use Rattle.vessels.proofs.Sizes.{step_fits, gained_below}
use Rattle.vessels.proofs.gases.gained.Goals as goal
use Rattle.fixed_num.proofs.Fits.{fits}

pub overflow_cast-result : goal.overflow_cast-result
overflow_cast-result c =
    let f = step_fits c.args.dt c.args.growth c.requires.dt_in.low c.requires.dt_in.high (omega arith) in
    grind (arith, to_z-of_z, fits c.rnd.result, gained_below c.args.dt c.args.growth c.rnd.result c.requires.dt_in.low c.requires.dt_in.high c.requires.growth_in)

pub returns-clause-value : goal.returns-clause-value
returns-clause-value c =
    let f = step_fits c.args.dt c.args.growth c.requires.dt_in.low c.requires.dt_in.high (omega arith) in
    grind (arith, to_z-of_z, fits c.rnd.result, gained_below c.args.dt c.args.growth c.rnd.result c.requires.dt_in.low c.requires.dt_in.high c.requires.growth_in)

pub returns-clause-size : goal.returns-clause-size
returns-clause-size c =
    let f = step_fits c.args.dt c.args.growth c.requires.dt_in.low c.requires.dt_in.high (omega arith) in
    grind (arith, to_z-of_z, fits c.rnd.result, gained_below c.args.dt c.args.growth c.rnd.result c.requires.dt_in.low c.requires.dt_in.high c.requires.growth_in)
