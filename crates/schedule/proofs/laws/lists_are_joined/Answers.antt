use Rattle.schedule.proofs.Lists.{run-append, lawful-append, lawful-front, lawful-back}
use Rattle.schedule.proofs.laws.lists_are_joined.Goals as goal

pub returns-clause-state : goal.returns-clause-state
returns-clause-state c = run-append

pub returns-clause-lawful : goal.returns-clause-lawful
returns-clause-lawful c = lawful-append

pub returns-clause-front : goal.returns-clause-front
returns-clause-front c = lawful-front

pub returns-clause-rest : goal.returns-clause-rest
returns-clause-rest c = lawful-back
