use Rattle.std.proofs.Common.{arith, to_z-of_z}
use Rattle.valves.specs.Devices.{through}
use Rattle.valves.proofs.devices.at_flow.Goals as goal

pub returns : goal.returns
unfolding through
returns c = grind (arith, to_z-of_z, c.through_of.ensures, c.impedance_head.ensures.value, c.impedance_head-2.ensures.value)
