use Rattle.std.proofs.Common.{arith, to_z-of_z}
use Rattle.charline.specs.Characteristics.{driven_flow}
use Rattle.charline.proofs.Sizes.{flow_below}
use Rattle.charline.proofs.quotients.driven_flow.Goals as goal
use Rattle.fixed_num.proofs.Fits.{fits}

pub overflow_cast-result : goal.overflow_cast-result
overflow_cast-result c = grind (arith, to_z-of_z, fits c.rnd.result, flow_below c.args.head c.args.b c.rnd.result c.requires.head_in c.requires.low)

pub returns-clause-value : goal.returns-clause-value
unfolding driven_flow
returns-clause-value c = grind (arith, to_z-of_z, fits c.rnd.result, flow_below c.args.head c.args.b c.rnd.result c.requires.head_in c.requires.low)

pub returns-clause-size : goal.returns-clause-size
returns-clause-size c = grind (arith, to_z-of_z, fits c.rnd.result, flow_below c.args.head c.args.b c.rnd.result c.requires.head_in c.requires.low)
