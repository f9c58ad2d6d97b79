use Rattle.case_model.proofs.FaultLaws.{first_fault-Some, first_fault-only, first_fault-None, first_fault-none_bad}
use Rattle.case_model.proofs.faults.first_fault_is_least.Goals as goal

pub returns-clause-least : goal.returns-clause-least
returns-clause-least c = first_fault-Some

pub returns-clause-only : goal.returns-clause-only
returns-clause-only c = first_fault-only

pub returns-clause-none : goal.returns-clause-none
returns-clause-none c = first_fault-None

pub returns-clause-some : goal.returns-clause-some
returns-clause-some c = first_fault-none_bad
