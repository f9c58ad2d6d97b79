-- What is known of the blocks that an entered region needs, and what is left of them.
use Rattle.std.specs.Prelude.{◌≡◌, ℕ, ◌<◌, ◌≤◌, List, length, slice_index_or, Some}
use Rattle.case_model.specs.Meaning.{Meaning}
use Rattle.endhistory.specs.Seats.{reading}
use Rattle.endhistory.specs.Steps.{passed_view}
use Rattle.endhistory.specs.declared.history.History.{History}
use Rattle.endhistory.specs.declared.history.Reader.{Reader}
use Rattle.regions.specs.Needs.{needs_of}
use Rattle.regions.specs.Sides.{is_section, sides_of}
use Rattle.regions.specs.declared.shapes.Layout.{Layout}
use Rattle.regionrun.specs.declared.frontiers.Frontier.{Frontier}
use Rattle.runners.specs.Ends.{AreReadersAt, IsReaderAt}

-- the next region of a strand needs a block of this side, and its reader has seen it published
pub record IsToTake (law : Meaning) (layout : Layout) (histories : List History)
    (frontier : Frontier) (side : ℕ) (reader : Reader) : Type 0 where
  pub side_there : side < sides_of layout law.mesh frontier.number
  pub block : ℕ
  pub needed : needs_of (is_section layout frontier.number) frontier.computed ≡ Some block
  pub few : block < layout.windows
  pub at : IsReaderAt law layout histories frontier.number side block reader
  pub seen : block < (reading reader.seat).seen

-- the same of all sides
pub record AreToTake (law : Meaning) (layout : Layout) (histories : List History)
    (frontier : Frontier) (readers : List Reader) : Type 0 where
  pub block : ℕ
  pub needed : needs_of (is_section layout frontier.number) frontier.computed ≡ Some block
  pub few : block < layout.windows
  pub at : AreReadersAt law layout histories frontier.number block readers
  pub seen : (j : ℕ) (d : Reader) → j < length readers
      → block < (reading (slice_index_or readers j d).seat).seen

-- the first n readers have passed their next blocks, and the others did nothing
pub record ArePassed (n : ℕ) (old new : List Reader) : Type 0 where
  pub each : length new ≡ length old
  pub passed : (j : ℕ) (d e : Reader) → j < n → reading (slice_index_or new j e).seat
      ≡ passed_view (reading (slice_index_or old j d).seat)
  pub rest : (j : ℕ) (d : Reader) → n ≤ j → slice_index_or new j d ≡ slice_index_or old j d
