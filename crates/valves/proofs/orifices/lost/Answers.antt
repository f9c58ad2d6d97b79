use Rattle.std.proofs.Common.{arith, to_z-of_z}
use Rattle.valves.proofs.Quotients.{lost_fits, lost_below}
use Rattle.valves.proofs.orifices.lost.Goals as goal

pub overflow_mul-result : goal.overflow_mul-result
overflow_mul-result c = grind (arith, to_z-of_z, lost_fits c.args.x c.args.q0 c.requires.x_in c.requires.q0_in)

pub returns-clause-value : goal.returns-clause-value
returns-clause-value c = grind (arith, to_z-of_z, lost_fits c.args.x c.args.q0 c.requires.x_in c.requires.q0_in)

pub returns-clause-size : goal.returns-clause-size
returns-clause-size c =
    let f = lost_fits c.args.x c.args.q0 c.requires.x_in c.requires.q0_in in
    grind (arith, to_z-of_z, lost_below c.args.x c.args.q0 c.requires.q0_in)
