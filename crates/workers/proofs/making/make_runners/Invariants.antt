-- What holds while runners are made, from the last strand to the first.
use Rattle.std.specs.Prelude.{length}
use Rattle.envelope.specs.RowFolds.{probe_numbers}
use Rattle.regionrun.specs.Made.{AreNew}
use Rattle.workers.specs.Runs.{AreFreshEnds}
use Rattle.workers.specs.Backwards.{AreMadeFrom}
use Rattle.workers.proofs.making.make_runners.Given as goal

abbrev pub invariant-loop-strand : goal.invariant-loop-strand
invariant-loop-strand g l = record {
  strands : AreNew g.S.EntryStub.strand_of g.S.EntryStub.entered_of l.tag.case.now
      (g.L.Law.meaning l.tag.law.now) l.tag.layout.now
      (probe_numbers l.tag.mesh.now l.tag.case.now) (length l.strands.items) l.strands.items;
  ends : AreFreshEnds (g.L.Law.meaning l.tag.law.now) l.tag.layout.now l.tag.histories.now
      (length l.strands.items) l.writers.items l.readers.items;
  made : AreMadeFrom g.L.Law.meaning g.S.EntryStub.strand_of g.S.EntryStub.entered_of l.tag
      (length l.strands.items) l.runners.items;
}

abbrev pub decreases-loop-strand : goal.decreases-loop-strand
decreases-loop-strand g l = length l.strands.items
