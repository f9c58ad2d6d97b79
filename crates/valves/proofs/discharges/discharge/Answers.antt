use Rattle.std.proofs.Common.{rules}
use Rattle.valves.specs.Discharges.{discharge_flow, discharge_state}
use Rattle.valves.proofs.discharges.discharge.Goals as goal

pub returns-clause-flow : goal.returns-clause-flow
unfolding discharge_state discharge_flow
returns-clause-flow c = search rules
