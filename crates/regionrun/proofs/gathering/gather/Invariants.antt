use Rattle.std.specs.Prelude.{◌*◌, ◌≤◌}
use Rattle.case_model.specs.Meaning.{Meaning}
use Rattle.envelope.specs.Folds.{IsSameFold, Stands, steps_of}
use Rattle.envelope.specs.Notings.{nothing}
use Rattle.regions.specs.declared.shapes.Layout.{Layout}
use Rattle.regionrun.specs.Gathering.{AreDone}
use Rattle.regionrun.specs.Owned.{owned_below}
use Rattle.strands.specs.Marks.{marked}
use Rattle.regionrun.proofs.gathering.gather.Given as goal

abbrev pub invariant-loop-strand : goal.invariant-loop-strand
invariant-loop-strand g l = record {
  same : IsSameFold l.fn.into l.into;
  stands : (law : Meaning) (layout : Layout) → AreDone law layout l.strands
      → steps_of l.fn.into ≤ layout.windows * layout.window → Stands l.fn.into nothing
      → Stands l.into (marked law (owned_below law.mesh layout.window l.strand-index));
}
