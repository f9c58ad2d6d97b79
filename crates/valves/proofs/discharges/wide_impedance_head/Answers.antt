use Rattle.std.proofs.Common.{arith, to_z-of_z}
use Rattle.charline.specs.Characteristics.{impedance_head}
use Rattle.valves.proofs.Quotients.{head_fits, head_below}
use Rattle.valves.proofs.discharges.wide_impedance_head.Goals as goal

pub returns-clause-value : goal.returns-clause-value
unfolding impedance_head
returns-clause-value c =
    let f = head_fits c.args.b c.args.q c.requires.impedance c.requires.flow_in in
    grind (arith, to_z-of_z, head_below c.args.b c.args.q c.rnd.result c.requires.impedance c.requires.flow_in)

pub returns-clause-size : goal.returns-clause-size
returns-clause-size c =
    let f = head_fits c.args.b c.args.q c.requires.impedance c.requires.flow_in in
    grind (arith, to_z-of_z, head_below c.args.b c.args.q c.rnd.result c.requires.impedance c.requires.flow_in)
