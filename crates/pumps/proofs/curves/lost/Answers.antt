use Rattle.std.proofs.Common.{arith, to_z-of_z}
use Rattle.pumps.proofs.Scales.{lost_fits, lost_below}
use Rattle.pumps.proofs.curves.lost.Goals as goal
use Rattle.fixed_num.proofs.Fits.{fits}

pub overflow_cast-result : goal.overflow_cast-result
overflow_cast-result c =
    let f = lost_fits c.args.b c.args.flow c.requires.b_in c.requires.flow_in in
    grind (arith, to_z-of_z, fits c.rnd.result, lost_below c.args.b c.args.flow c.rnd.result c.requires.b_in c.requires.flow_in)

pub returns-clause-value : goal.returns-clause-value
returns-clause-value c =
    let f = lost_fits c.args.b c.args.flow c.requires.b_in c.requires.flow_in in
    grind (arith, to_z-of_z, fits c.rnd.result, lost_below c.args.b c.args.flow c.rnd.result c.requires.b_in c.requires.flow_in)

pub returns-clause-size : goal.returns-clause-size
returns-clause-size c =
    let f = lost_fits c.args.b c.args.flow c.requires.b_in c.requires.flow_in in
    grind (arith, to_z-of_z, fits c.rnd.result, lost_below c.args.b c.args.flow c.rnd.result c.requires.b_in c.requires.flow_in)
