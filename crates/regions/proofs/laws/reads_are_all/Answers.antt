use Rattle.regions.proofs.Depending.{node_ends-agree, spots-agree}
use Rattle.regions.proofs.laws.reads_are_all.Goals as goal

pub returns-clause-spots : goal.returns-clause-spots
returns-clause-spots c = spots-agree

pub returns-clause-ends : goal.returns-clause-ends
returns-clause-ends c = node_ends-agree
