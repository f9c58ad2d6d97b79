-- What a run goes from: the ends of its runners, as they were opened.
use Rattle.std.specs.Prelude.{ℕ, length}
use Rattle.case_model.specs.Meaning.{Meaning}
use Rattle.histories.specs.Opened.{AreOpened}
use Rattle.histories.specs.declared.ends.Ends.{Ends}
use Rattle.regions.specs.declared.shapes.Layout.{Layout}
use Rattle.workers.specs.Runs.{AreFreshEnds}

pub fresh-ends : (law : Meaning) (layout : Layout) (slots : ℕ) (ends : Ends)
    → AreOpened law layout slots ends
    → AreFreshEnds law layout ends.histories.items (length layout.shapes) ends.writers.items
    ends.readers.items
fresh-ends law layout slots ends opened = record {
  writer_count = opened.writer_count;
  each_writer = opened.writers;
  reader_count = opened.reader_count;
  each_reader = opened.readers;
}
