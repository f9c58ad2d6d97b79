use Rattle.charline.proofs.Factors.{cuts_factors, meet_halfway, flow_by_twice}
use Rattle.charline.proofs.equal.equal_impedances.Goals as goal

pub returns-clause-factors : goal.returns-clause-factors
returns-clause-factors c = cuts_factors

pub returns-clause-head : goal.returns-clause-head
returns-clause-head c = meet_halfway

pub returns-clause-flow : goal.returns-clause-flow
returns-clause-flow c = flow_by_twice
