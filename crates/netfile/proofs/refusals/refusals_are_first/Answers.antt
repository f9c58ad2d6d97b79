use Rattle.std.proofs.Common.{subst, Option}
use Rattle.case_model.specs.Search.{Refusal}
use Rattle.case_model.specs.Bounds.{FirstOrNone}
use Rattle.netfile.specs.Verdict.{all_passes}
use Rattle.netfile.proofs.Judged.{refusal_first, refusal_only, refusal_empty}
use Rattle.netfile.proofs.refusals.refusals_are_first.Goals as goal

pub returns-clause-first : goal.returns-clause-first
returns-clause-first c = λ lines r e. subst (λ (o : Option Refusal). FirstOrNone (all_passes lines) o) e (refusal_first lines)

pub returns-clause-none : goal.returns-clause-none
returns-clause-none c = λ lines e. subst (λ (o : Option Refusal). FirstOrNone (all_passes lines) o) e (refusal_first lines)

pub returns-clause-only : goal.returns-clause-only
returns-clause-only c = refusal_only

pub returns-clause-empty : goal.returns-clause-empty
returns-clause-empty c = refusal_empty
