use Rattle.std.specs.Prelude.{◌≡◌, ℕ, ◌+◌, ◌<◌, slice_index_or, true}
use Rattle.endhistory.specs.declared.history.Reader.{Reader}
use Rattle.regionrun.specs.Right.{IsRight, IsSameStrand, has_loaded}
use Rattle.runners.specs.Blocks.{ArePassed}
use Rattle.runners.specs.Ends.{IsReaderAt}
use Rattle.runners.proofs.blocks.take_all.Given as goal

abbrev pub invariant-loop-side : goal.invariant-loop-side
invariant-loop-side g l = record {
  right : IsRight (g.L.Law.meaning l.tag.law.now) l.tag.layout.now l.strand.frontier;
  same : IsSameStrand l.fn.strand.frontier l.strand.frontier;
  computed : l.strand.frontier.computed ≡ l.fn.strand.frontier.computed;
  stub : l.strand.stub ≡ l.fn.strand.stub;
  fed : (c : ℕ) → c < l.side → has_loaded l.strand.frontier c ≡ true;
  passed : ArePassed l.side l.fn.readers l.readers;
  at : (b j : ℕ) (d : Reader) → j < l.side
      → IsReaderAt (g.L.Law.meaning l.tag.law.now) l.tag.layout.now l.tag.histories.now
      l.fn.strand.frontier.number j b (slice_index_or l.fn.readers j d)
      → IsReaderAt (g.L.Law.meaning l.tag.law.now) l.tag.layout.now l.tag.histories.now
      l.fn.strand.frontier.number j (b + 1) (slice_index_or l.readers j d);
}
