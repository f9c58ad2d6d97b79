use Rattle.envelope.proofs.Numbered.{at-number, number-within, number-at}
use Rattle.envelope.proofs.RowFolds.{fault-below}
use Rattle.envelope.proofs.rows.numbers_tell_places.Goals as goal

pub returns-clause-place : goal.returns-clause-place
returns-clause-place c = at-number

pub returns-clause-below : goal.returns-clause-below
returns-clause-below c = number-within

pub returns-clause-on : goal.returns-clause-on
returns-clause-on c = λ mesh k n h. (number-at mesh k n h).0

pub returns-clause-number : goal.returns-clause-number
returns-clause-number c = λ mesh k n h. (number-at mesh k n h).1

pub returns-clause-fault : goal.returns-clause-fault
returns-clause-fault c = fault-below
