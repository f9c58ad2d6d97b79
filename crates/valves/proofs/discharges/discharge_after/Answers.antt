use Rattle.std.proofs.Common.{arith, to_z-of_z}
use Rattle.valves.proofs.discharges.discharge_after.Goals as goal

pub returns : goal.returns
returns c =
    grind (arith, to_z-of_z, c.kept_or_closed.ensures, c.cavity_volume-after.ensures.value, c.growth_at-now.ensures.value, c.inflow-inflow.ensures.value)
