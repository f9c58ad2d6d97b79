use Rattle.std.proofs.Common.{arith, to_z-of_z}
use Rattle.vessels.proofs.Sizes.{step_fits, step_below}
use Rattle.vessels.proofs.tanks.in_step.Goals as goal

pub returns-clause-size : goal.returns-clause-size
returns-clause-size c =
    let f = step_fits c.args.dt c.args.driven c.requires.dt_in.low c.requires.dt_in.high c.requires.driven_in in
    grind (arith, to_z-of_z, step_below c.args.dt c.args.driven 20000000000000000000000000000000 c.requires.dt_in.low c.requires.dt_in.high c.requires.driven_in)
