use Rattle.std.proofs.Common.{ℕ, take}
use Rattle.case_model.specs.Meaning.{Meaning}
use Rattle.envelope.specs.Folds.{IsSameFold, Stands}
use Rattle.strands.specs.Hubs.{EachSpoke}
use Rattle.strands.specs.Marks.{Marks, marked, or_marked}
use Rattle.strands.specs.Spokes.{IsSpokeAt, ends_marks}
use Rattle.strands.proofs.hubs.note_ends.Given as goal

abbrev pub invariant-loop-i : goal.invariant-loop-i
invariant-loop-i l = record {
  same : IsSameFold l.fn.fold l.fold;
  stands : (law : Meaning) (w : ℕ) (marks : Marks) → EachSpoke (λ i. IsSpokeAt law w 0) l.spokes
      → Stands l.fn.fold (marked law marks)
      → Stands l.fold (marked law (or_marked marks (ends_marks w (take l.i l.spokes))));
}
