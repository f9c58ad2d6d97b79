use Rattle.case_model.proofs.Keeping.{kept, parts}
use Rattle.case_model.proofs.accepted.accepted_cases_are_kept.Goals as goal

pub returns-clause-kept : goal.returns-clause-kept
returns-clause-kept c = kept

pub returns-clause-parts : goal.returns-clause-parts
returns-clause-parts c = parts
