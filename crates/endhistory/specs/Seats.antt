-- What contracts see of a writer's or a reader's seat, and what several steps in a row leave.
use Rattle.std.specs.Prelude.{◌≡◌, ℕ, ◌+◌, ◌<◌, ◌≤◌, ◌++◌, [], length, slice_index}
use Rattle.std.specs.List.{range_with_len}
use Rattle.atomic_table.specs.Seated.{TableId}
use Rattle.atomic_table.specs.declared.shared.Seat.{Seat}
use Rattle.endhistory.specs.declared.views.Sizes.{Sizes}
use Rattle.endhistory.specs.declared.views.Writing.{Writing}
use Rattle.endhistory.specs.declared.views.Reading.{Reading}
use Rattle.endhistory.specs.declared.views.Role.{Role}
use Rattle.endhistory.specs.declared.views.Role.TheVariants.{Unopened, Nobody, AsWriter, AsReader}
use Rattle.endhistory.specs.declared.views.View.{View}
use Rattle.endhistory.specs.Blocks.{Blocks, word_count}
use Rattle.endhistory.specs.Rule.{start_writing, start_reading}
use Rattle.endhistory.specs.Tells.{in_role}

abbrev pub Place : Type 0
Place = Seat (Unit {0}) View

abbrev pub writing_of : Sizes → Role → Writing
writing_of z Unopened = start_writing z
writing_of z (Nobody readers) = start_writing z
writing_of z (AsWriter w) = w
writing_of z (AsReader r y) = start_writing z

abbrev pub reading_of : Role → Reading
reading_of Unopened = start_reading
reading_of (Nobody readers) = start_reading
reading_of (AsWriter w) = start_reading
reading_of (AsReader r y) = y

abbrev pub number_in : Role → ℕ
number_in Unopened = 0
number_in (Nobody readers) = 0
number_in (AsWriter w) = 0
number_in (AsReader r y) = r

-- the writer's view
abbrev pub writing : Place → Writing
writing s = writing_of s.me.0.sizes s.me.0.role

-- the reader's view
abbrev pub reading : Place → Reading
reading s = reading_of s.me.0.role

-- the reader's number
abbrev pub number_of : Place → ℕ
number_of s = number_in s.me.0.role

-- the list of blocks
abbrev pub blocks_of : Place → Blocks
blocks_of s = s.me.0.blocks

-- the seat is a writer's
abbrev pub IsWriter : Place → Type 0
IsWriter s = s.me ≡ (in_role s.me.0 (AsWriter (writing s)), [])

-- the seat is a reader's
abbrev pub IsReader : Place → Type 0
IsReader s = s.me ≡ (in_role s.me.0 (AsReader (number_of s) (reading s)), [])

-- the seat is of this table, and keeps its sizes
pub record IsAt (id : TableId) (z : Sizes) (s : Place) : Type 0 where
  pub table : s.table_id ≡ id
  pub words : id.words ≡ word_count z
  pub sizes : s.me.0.sizes ≡ z

-- a writer that `make` gave: its seat is of this table, it has this list of blocks, and all its
-- counts are 0
pub record IsNewWriter (id : TableId) (z : Sizes) (blocks : Blocks) (s : Place) : Type 0 where
  pub at : IsAt id z s
  pub blocks_are : blocks_of s ≡ blocks
  pub view : writing s ≡ start_writing z

-- a reader that `make` gave
pub record IsNewReader (id : TableId) (z : Sizes) (blocks : Blocks) (s : Place) : Type 0 where
  pub at : IsAt id z s
  pub blocks_are : blocks_of s ≡ blocks
  pub view : reading s ≡ start_reading

-- the seat is as it was, but for the writer's view
abbrev pub WritesWith : Place → Writing → Place → Type 0
WritesWith s w t = (t.table_id ≡ s.table_id) × (t.id ≡ s.id)
    × (t.me ≡ (in_role s.me.0 (AsWriter w), []))

-- the seat is as it was, but for the reader's view
abbrev pub ReadsWith : Place → Reading → Place → Type 0
ReadsWith s y t = (t.table_id ≡ s.table_id) × (t.id ≡ s.id)
    × (t.me ≡ (in_role s.me.0 (AsReader (number_of s) y), []))

-- the writer's view after n words more, the reader's after n words more
abbrev pub filled_to : Writing → ℕ → Writing
filled_to w n = record w { filled = n }

abbrev pub taken_to : Reading → ℕ → Reading
taken_to y n = record y { taken = n }

-- the writer asked the first `count` readers in order, once each; only what it has loaded changed:
-- no count fell, and those of the other readers are as they were
pub record HasAsked (z : Sizes) (w w' : Writing) (count : ℕ) : Type 0 where
  pub next : w'.next ≡ w.next
  pub filled : w'.filled ≡ w.filled
  pub loads : w'.loads ≡ w.loads + count
  pub asked : w'.asked ≡ w.asked ++ range_with_len 0 count
  pub each_known : length w'.known ≡ length w.known
  pub rising : (r : ℕ) → r < z.readers → slice_index w.known r ≤ slice_index w'.known r
  pub others : (r : ℕ) → count ≤ r → slice_index w'.known r ≡ slice_index w.known r

-- the first `count` readers were asked, and each has passed the block that lies in the slot of the
-- next one
pub record AllFree (z : Sizes) (w w' : Writing) (count : ℕ) : Type 0 where
  pub asks : HasAsked z w w' count
  pub free : (k : ℕ) → k < count → w'.next < slice_index w'.known k + z.slots
