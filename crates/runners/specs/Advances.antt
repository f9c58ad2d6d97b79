-- What an advance found in its call, and what it did.
use Rattle.std.specs.Prelude.{◌≡◌, ℕ, ◌+◌, ◌<◌, ◌≤◌, ◌++◌, List, length, slice_index}
use Rattle.std.specs.Prelude.{slice_index_or, Some, None}
use Rattle.std.specs.List.{range_with_len}
use Rattle.case_model.specs.Meaning.{Meaning}
use Rattle.endhistory.specs.Answers.{Finds}
use Rattle.endhistory.specs.Seats.{Place, reading, writing}
use Rattle.endhistory.specs.Steps.{looked_view}
use Rattle.endhistory.specs.declared.answers.Vacancy.TheVariants.{Free, Held}
use Rattle.endhistory.specs.declared.history.Reader.{Reader}
use Rattle.endhistory.specs.declared.views.Reading.{Reading}
use Rattle.endhistory.specs.declared.views.Sizes.{Sizes}
use Rattle.endhistory.specs.declared.views.Writing.{Writing}
use Rattle.regions.specs.Needs.{needs_of}
use Rattle.regions.specs.Sides.{is_section, side_of, sides_of}
use Rattle.regions.specs.declared.shapes.Layout.{Layout}
use Rattle.runners.specs.Runners.{computed_in, number_in}
use Rattle.runners.specs.declared.advances.Advance.{Advance}
use Rattle.runners.specs.declared.advances.Advance.TheVariants.{Left, NoBlock, NoSlot}
use Rattle.runners.specs.declared.runners.Runner.{Runner}

-- ---- one reader, one writer

-- the published count was loaded once, and was over the next block
pub record HasSeen (old new : Reading) : Type 0 where
  pub looked : new ≡ looked_view old new.seen
  pub ready : old.next < new.seen

-- the published count was loaded once, and was over block b, which then was passed
pub record HasRead (b : ℕ) (old new : Reading) : Type 0 where
  pub was : old.next ≡ b
  pub loads : new.loads ≡ old.loads + 1
  pub ready : b < new.seen
  pub passed : new.next ≡ b + 1

-- of each reader, in order, the passed count was loaded, and was over b less the count of slots;
-- then block b was published
pub record HasWritten (z : Sizes) (b : ℕ) (old new : Writing) : Type 0 where
  pub was : old.next ≡ b
  pub loads : new.loads ≡ old.loads + z.readers
  pub asked : new.asked ≡ old.asked ++ range_with_len 0 z.readers
  pub free : (r : ℕ) → r < z.readers → b < slice_index new.known r + z.slots
  pub published : new.next ≡ b + 1

-- the sizes of the history at which a seat is
abbrev pub sizes_of_seat : Place → Sizes
sizes_of_seat seat = seat.me.0.sizes

-- ---- the readers of a strand

-- each of the first n has seen its next block published, and the others did nothing
pub record HaveSeen (n : ℕ) (old new : List Reader) : Type 0 where
  pub each : length new ≡ length old
  pub seen : (j : ℕ) (d e : Reader) → j < n
      → HasSeen (reading (slice_index_or old j d).seat) (reading (slice_index_or new j e).seat)
  pub rest : (j : ℕ) (d : Reader) → n ≤ j → slice_index_or new j d ≡ slice_index_or old j d

-- so many blocks of this neighbour of strand x were published when the reader of its side looked,
-- which is too few; the readers before it have seen their blocks, and those after it did nothing
pub record IsLate (law : Meaning) (layout : Layout) (x neighbour published : ℕ)
    (old new : List Reader) : Type 0 where
  pub each : length new ≡ length old
  pub side : ℕ
  pub there : side < sides_of layout law.mesh x
  pub neighbour_is : side_of layout law.mesh x side ≡ neighbour
  pub seen : (j : ℕ) (d e : Reader) → j < side
      → HasSeen (reading (slice_index_or old j d).seat) (reading (slice_index_or new j e).seat)
  pub looked : (d e : Reader) → reading (slice_index_or new side e).seat
      ≡ looked_view (reading (slice_index_or old side d).seat) published
  pub late : (d : Reader) → published ≤ (reading (slice_index_or old side d).seat).next
  pub rest : (j : ℕ) (d : Reader) → side < j → slice_index_or new j d ≡ slice_index_or old j d

-- before region m of strand x is entered: where it needs blocks, each reader has seen its own
-- published, and where it needs none, none has looked
pub record HasBlocks (layout : Layout) (x m : ℕ) (old new : List Reader) : Type 0 where
  pub needed : (b : ℕ) → needs_of (is_section layout x) m ≡ Some b
      → HaveSeen (length old) old new
  pub unneeded : needs_of (is_section layout x) m ≡ None → new ≡ old

-- ---- a runner

module _ {L S : Type 0} where
  -- its next region was entered, computed and left. Where the region needs a block of each side,
  -- it was found published in this call, and was passed; where it writes a block, a slot was found
  -- free in this call, and it was published
  pub record HasLeft (law : Meaning) (layout : Layout) (old new : Runner L S) : Type 0 where
    pub computed : computed_in new ≡ computed_in old + 1
    pub read : (b j : ℕ) (d e : Reader)
        → needs_of (is_section layout (number_in old)) (computed_in old) ≡ Some b
        → j < sides_of layout law.mesh (number_in old)
        → HasRead b (reading (slice_index_or old.readers.items j d).seat)
        (reading (slice_index_or new.readers.items j e).seat)
    pub unread : needs_of (is_section layout (number_in old)) (computed_in old) ≡ None
        → new.readers.items ≡ old.readers.items
    pub written : computed_in old < layout.windows
        → HasWritten (sizes_of_seat old.writer.seat) (computed_in old)
        (writing old.writer.seat) (writing new.writer.seat)
    pub unwritten : layout.windows ≤ computed_in old → new.writer ≡ old.writer

  -- the next region needs block b of this neighbour, and a reader that looked in this call found so
  -- many published, which is at most b
  pub record IsHeldUp (law : Meaning) (layout : Layout) (neighbour published : ℕ)
      (old new : Runner L S) : Type 0 where
    pub block : ℕ
    pub needed : needs_of (is_section layout (number_in old)) (computed_in old) ≡ Some block
    pub few : published ≤ block
    pub late : IsLate law layout (number_in old) neighbour published old.readers.items
        new.readers.items
    pub strand : new.strand ≡ old.strand
    pub writer : new.writer ≡ old.writer

  -- the next region writes a block, and this reader of the strand's history, whose count was loaded
  -- in this call, had passed so many, which is at most that block's number less the count of slots
  pub record IsFull (layout : Layout) (reader passed : ℕ) (old new : Runner L S) : Type 0 where
    pub writes : computed_in old < layout.windows
    pub found : Finds (sizes_of_seat old.writer.seat) (Held reader passed)
        (writing old.writer.seat) (writing new.writer.seat)
    pub blocks : HasBlocks layout (number_in old) (computed_in old) old.readers.items
        new.readers.items
    pub strand : new.strand ≡ old.strand

  -- before the next region is entered: where it writes a block, each reader of the strand's history
  -- was asked, and a slot was found free, and where it writes none, nothing was done
  pub record HasSlot (layout : Layout) (old new : Runner L S) : Type 0 where
    pub writes : computed_in old < layout.windows
        → Finds (sizes_of_seat old.writer.seat) Free
        (writing old.writer.seat) (writing new.writer.seat)
    pub none : layout.windows ≤ computed_in old → new.writer ≡ old.writer

  abbrev pub Tells : Meaning → Layout → Advance → Runner L S → Runner L S → Type 0
  Tells law layout Left old new = HasLeft law layout old new
  Tells law layout (NoBlock neighbour published) old new =
      IsHeldUp law layout neighbour published old new
  Tells law layout (NoSlot reader passed) old new = IsFull layout reader passed old new
