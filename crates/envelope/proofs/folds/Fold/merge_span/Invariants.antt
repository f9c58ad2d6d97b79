use Rattle.envelope.specs.Changes.{AreJoined}
use Rattle.envelope.proofs.folds.Fold.merge_span.Given as goal

abbrev pub invariant-loop-place : goal.invariant-loop-place
invariant-loop-place l = AreJoined l.fn.self l.other l.self l.first l.place
