-- The six kinds of step. Each is one load or one store of one word by one seat. It changes the view
-- of that seat alone, and no step changes the list of blocks.
-- K is the count of slots. Where it says known[r] > next - K, the sum stands on the other side:
-- next < known[r] + K.
use Rattle.std.specs.Prelude.{◌≡◌, ℕ, ◌+◌, ◌<◌, ◌++◌, ◌∷◌, [], length, slice_index, slice_set}
use Rattle.endhistory.specs.declared.views.Sizes.{Sizes}
use Rattle.endhistory.specs.declared.views.Writing.{Writing}
use Rattle.endhistory.specs.declared.views.Reading.{Reading}
use Rattle.endhistory.specs.Blocks.{Blocks, block, data_word}

-- of every reader the writer has loaded a count over next - K
abbrev pub IsFree : Sizes → Writing → Type 0
IsFree z w = (r : ℕ) → r < z.readers → w.next < slice_index w.known r + z.slots

-- Check. The writer loads the passed count of reader r.
-- Needs: nothing but that there is a reader r.
-- View after: known[r] is the loaded word, loads is one more, r was asked.
pub record CheckNeeds (z : Sizes) (word r : ℕ) : Type 0 where
  pub reader : r < z.readers
  pub place : word ≡ 1 + r

abbrev pub checked_view : Writing → ℕ → ℕ → Writing
checked_view w r n =
    record w { loads = w.loads + 1; asked = w.asked ++ r ∷ []; known = slice_set w.known r n }

-- Fill. The writer stores the next word of its next block.
-- Needs: known[r] > next - K for every r; filled < width; next is below the count of blocks; the
-- word is that of the block.
-- View after: filled is one more.
pub record FillNeeds (z : Sizes) (blocks : Blocks) (w : Writing) (word x : ℕ) : Type 0 where
  pub free : IsFree z w
  pub room : w.filled < z.width
  pub within : w.next < length blocks
  pub place : word ≡ data_word z w.next w.filled
  pub word_is : x ≡ slice_index (block blocks w.next) w.filled

abbrev pub filled_view : Writing → Writing
filled_view w = record w { filled = w.filled + 1 }

-- Publish. The writer stores next + 1 as the published count.
-- Needs: filled = width.
-- View after: next is one more, filled is 0.
pub record PublishNeeds (z : Sizes) (w : Writing) (word x : ℕ) : Type 0 where
  pub full : w.filled ≡ z.width
  pub place : word ≡ 0
  pub word_is : x ≡ w.next + 1

abbrev pub published_view : Writing → Writing
published_view w = record w { next = w.next + 1; filled = 0 }

-- Look. A reader loads the published count.
-- Needs: nothing.
-- View after: seen is the loaded word, loads is one more.
abbrev pub looked_view : Reading → ℕ → Reading
looked_view y n = record { next = y.next; seen = n; taken = y.taken; loads = y.loads + 1 }

-- Take. A reader loads the next word of its next block.
-- Needs: seen > next; taken < width.
-- View after: taken is one more.
pub record TakeNeeds (z : Sizes) (y : Reading) (word : ℕ) : Type 0 where
  pub ready : y.next < y.seen
  pub room : y.taken < z.width
  pub place : word ≡ data_word z y.next y.taken

abbrev pub taken_view : Reading → Reading
taken_view y = record { next = y.next; seen = y.seen; taken = y.taken + 1; loads = y.loads }

-- Pass. Reader r stores next + 1 as its passed count.
-- Needs: taken = width.
-- View after: next is one more, taken is 0.
pub record PassNeeds (z : Sizes) (r : ℕ) (y : Reading) (word x : ℕ) : Type 0 where
  pub full : y.taken ≡ z.width
  pub place : word ≡ 1 + r
  pub word_is : x ≡ y.next + 1

abbrev pub passed_view : Reading → Reading
passed_view y = record { next = y.next + 1; seen = y.seen; taken = 0; loads = y.loads }
