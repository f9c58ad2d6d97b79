use Rattle.std.proofs.Common.{arith, to_z-of_z}
use Rattle.valves.proofs.discharges.growth_at.Goals as goal

pub returns-clause-value : goal.returns-clause-value
returns-clause-value c =
    grind (arith, to_z-of_z, c.orifice_flow.ensures.value, c.square_flow-square.ensures.value, c.open_flow.ensures.value)
