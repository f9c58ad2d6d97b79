-- The histories of a layout, and whose each writer and each reader is.
use Rattle.std.specs.Prelude.{◌≡◌, ℕ, ◌<◌, List, length, slice_index_or}
use Rattle.case_model.specs.Meaning.{Meaning}
use Rattle.endhistory.specs.Rule.{start_reading, start_writing}
use Rattle.endhistory.specs.Seats.{IsAt, blocks_of, number_of, reading, writing}
use Rattle.endhistory.specs.declared.history.History.{History}
use Rattle.endhistory.specs.declared.history.Reader.{Reader}
use Rattle.endhistory.specs.declared.history.Writer.{Writer}
use Rattle.histories.specs.Blocks.{blocks_of_strand, sizes_at}
use Rattle.histories.specs.declared.ends.Ends.{Ends}
use Rattle.regions.specs.Sides.{back_of, side_of, sides_of}
use Rattle.regions.specs.declared.shapes.Layout.{Layout}
use Rattle.std.specs.Global.{Vec}

-- the writer of this history, whose blocks are those of strand y
pub record IsWriterOf (law : Meaning) (layout : Layout) (y : ℕ) (history : History)
    (writer : Writer) : Type 0 where
  pub at : IsAt history.table.shared.table_id history.sizes writer.seat
  pub blocks_are : blocks_of writer.seat ≡ blocks_of_strand law layout y

-- reader number c of this history, whose blocks are those of strand y
pub record IsReaderOf (law : Meaning) (layout : Layout) (y c : ℕ) (history : History)
    (reader : Reader) : Type 0 where
  pub at : IsAt history.table.shared.table_id history.sizes reader.seat
  pub blocks_are : blocks_of reader.seat ≡ blocks_of_strand law layout y
  pub number_is : number_of reader.seat ≡ c

-- the same, and nothing was written or read
pub record IsFreshWriter (law : Meaning) (layout : Layout) (y : ℕ) (history : History)
    (writer : Writer) : Type 0 where
  pub of : IsWriterOf law layout y history writer
  pub view : writing writer.seat ≡ start_writing history.sizes

pub record IsFreshReader (law : Meaning) (layout : Layout) (y c : ℕ) (history : History)
    (reader : Reader) : Type 0 where
  pub of : IsReaderOf law layout y c history reader
  pub view : reading reader.seat ≡ start_reading

-- histories of a layout, one of each strand, of so many slots
pub record AreHistories (law : Meaning) (layout : Layout) (slots : ℕ) (histories : List History)
    : Type 0 where
  pub each : length histories ≡ length layout.shapes
  pub sizes : (y : ℕ) (d : History) → y < length layout.shapes
      → (slice_index_or histories y d).sizes ≡ sizes_at layout law.mesh slots y

-- the readers of the first n sides of strand x, in order: that of side j reads the history of the
-- neighbour there, as the reader whose number is that of x among the neighbour's sides
pub record AreReadersOf (law : Meaning) (layout : Layout) (histories : List History) (x n : ℕ)
    (readers : List Reader) : Type 0 where
  pub each : length readers ≡ n
  pub reader : (j : ℕ) (h : History) (r : Reader) → j < n
      → IsFreshReader law layout (side_of layout law.mesh x j) (back_of layout law.mesh x j)
      (slice_index_or histories (side_of layout law.mesh x j) h) (slice_index_or readers j r)

-- the histories of a layout with their ends, as they are opened: writer x is that of history x
pub record AreOpened (law : Meaning) (layout : Layout) (slots : ℕ) (ends : Ends) : Type 0 where
  pub histories : AreHistories law layout slots ends.histories.items
  pub writer_count : length ends.writers.items ≡ length layout.shapes
  pub writers : (x : ℕ) (h : History) (w : Writer) → x < length layout.shapes
      → IsFreshWriter law layout x (slice_index_or ends.histories.items x h)
      (slice_index_or ends.writers.items x w)
  pub reader_count : length ends.readers.items ≡ length layout.shapes
  pub readers : (x : ℕ) (d : Vec Reader) → x < length layout.shapes
      → AreReadersOf law layout ends.histories.items x (sides_of layout law.mesh x)
      (slice_index_or ends.readers.items x d).items
