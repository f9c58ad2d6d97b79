use Rattle.envelope.proofs.RowFolds.{fault-is, extreme-is, sample-is}
use Rattle.envelope.proofs.rows.folds_tell_rows.Goals as goal

pub returns-clause-fault : goal.returns-clause-fault
returns-clause-fault c = fault-is

pub returns-clause-extreme : goal.returns-clause-extreme
returns-clause-extreme c = extreme-is

pub returns-clause-sample : goal.returns-clause-sample
returns-clause-sample c = sample-is
