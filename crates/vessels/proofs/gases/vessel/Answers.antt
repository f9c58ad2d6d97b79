use Rattle.std.proofs.Common.{rules}
use Rattle.junctions.specs.Levels.{flows_of}
use Rattle.vessels.specs.Vessels.{vessel_flows, vessel_state}
use Rattle.vessels.proofs.gases.vessel.Goals as goal

pub returns-in-Bad-clause-flows : goal.returns-in-Bad-clause-flows
unfolding vessel_state vessel_flows flows_of
returns-in-Bad-clause-flows c = search rules
