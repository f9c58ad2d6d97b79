use Rattle.std.proofs.Common.{rules}
use Rattle.junctions.specs.Junctions.{junction_flows, junction_state}
use Rattle.junctions.specs.Levels.{flows_of}
use Rattle.junctions.proofs.laws.junction.Goals as goal

pub returns-in-Good-clause-flows : goal.returns-in-Good-clause-flows
unfolding junction_state junction_flows flows_of
returns-in-Good-clause-flows c = search rules

pub returns-in-Bad-clause-flows : goal.returns-in-Bad-clause-flows
unfolding junction_state junction_flows flows_of
returns-in-Bad-clause-flows c = search rules
