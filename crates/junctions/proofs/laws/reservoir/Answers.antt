use Rattle.std.proofs.Common.{rules}
use Rattle.junctions.specs.Junctions.{reservoir_flows, reservoir_state}
use Rattle.junctions.proofs.laws.reservoir.Goals as goal

pub returns-clause-flows : goal.returns-clause-flows
unfolding reservoir_state reservoir_flows
returns-clause-flows c = search rules
