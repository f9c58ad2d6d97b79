use Rattle.envelope.specs.Kept.{fault_kept}
use Rattle.envelope.proofs.folds.Fold.fault.Goals as goal

pub returns-clause-first : goal.returns-clause-first
unfolding fault_kept
returns-clause-first c = λ map p. p.first_fault
