use Rattle.std.proofs.Common.{rules}
use Rattle.junctions.specs.Levels.{flows_of}
use Rattle.vessels.specs.Vessels.{tank_flows, tank_state}
use Rattle.vessels.proofs.tanks.tank.Goals as goal

pub returns-in-Bad-clause-flows : goal.returns-in-Bad-clause-flows
unfolding tank_state tank_flows flows_of
returns-in-Bad-clause-flows c = search rules
