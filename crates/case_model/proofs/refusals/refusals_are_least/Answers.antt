use Rattle.std.proofs.Common.{Option, subst}
use Rattle.case_model.specs.Search.{Refusal}
use Rattle.case_model.specs.Bounds.{FirstOrNone}
use Rattle.case_model.proofs.SearchLaws.{first_is, first_found, first_none}
use Rattle.case_model.proofs.refusals.refusals_are_least.Goals as goal

pub returns-clause-found : goal.returns-clause-found
returns-clause-found c = first_found

pub returns-clause-least : goal.returns-clause-least
returns-clause-least c passes numbers count r s w e = subst (λ (o : Option Refusal). FirstOrNone passes o) e (first_is passes numbers count s w)

pub returns-clause-none : goal.returns-clause-none
returns-clause-none c = first_none

pub returns-clause-empty : goal.returns-clause-empty
returns-clause-empty c passes numbers count s w e = subst (λ (o : Option Refusal). FirstOrNone passes o) e (first_is passes numbers count s w)
