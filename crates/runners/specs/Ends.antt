-- The ends of the histories that a strand has: its own writer, and a reader for each side.
use Rattle.std.specs.Prelude.{◌≡◌, ℕ, ◌<◌, List, length, slice_index_or}
use Rattle.case_model.specs.Meaning.{Meaning}
use Rattle.endhistory.specs.Seats.{reading, writing}
use Rattle.endhistory.specs.declared.history.History.{History}
use Rattle.endhistory.specs.declared.history.Reader.{Reader}
use Rattle.endhistory.specs.declared.history.Writer.{Writer}
use Rattle.histories.specs.Opened.{IsReaderOf, IsWriterOf}
use Rattle.regions.specs.Sides.{back_of, side_of, sides_of}
use Rattle.regions.specs.declared.shapes.Layout.{Layout}

-- the writer of strand x, which has published n blocks
pub record IsWriterAt (law : Meaning) (layout : Layout) (histories : List History) (x n : ℕ)
    (writer : Writer) : Type 0 where
  pub of : (h : History) → IsWriterOf law layout x (slice_index_or histories x h) writer
  pub next_is : (writing writer.seat).next ≡ n

-- the reader of side j of strand x, which has passed n blocks of the neighbour there, and has
-- fetched none that it hasn't passed; its number is that of x among the neighbour's sides
pub record IsReaderAt (law : Meaning) (layout : Layout) (histories : List History) (x j n : ℕ)
    (reader : Reader) : Type 0 where
  pub of : (h : History) → IsReaderOf law layout (side_of layout law.mesh x j)
      (back_of layout law.mesh x j) (slice_index_or histories (side_of layout law.mesh x j) h)
      reader
  pub next_is : (reading reader.seat).next ≡ n
  pub none_taken : (reading reader.seat).taken ≡ 0

-- those of all sides
pub record AreReadersAt (law : Meaning) (layout : Layout) (histories : List History) (x n : ℕ)
    (readers : List Reader) : Type 0 where
  pub each : length readers ≡ sides_of layout law.mesh x
  pub reader : (j : ℕ) (r : Reader) → j < sides_of layout law.mesh x
      → IsReaderAt law layout histories x j n (slice_index_or readers j r)
