use Rattle.std.proofs.Common.{ℕ}
use Rattle.envelope.specs.Changes.{AreJoined}
use Rattle.envelope.specs.Folds.{spans_of}
use Rattle.envelope.proofs.Merged.{IsGap}
use Rattle.envelope.proofs.folds.Fold.merge.Given as goal

abbrev pub invariant-loop-index : goal.invariant-loop-index
invariant-loop-index l = (n : ℕ) → IsGap (spans_of l.other) l.index n → AreJoined l.fn.self l.other l.self 0 n
