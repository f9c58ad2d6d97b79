-- The blocks of a tag, and the words in which a history keeps them.
use Rattle.std.specs.Prelude.{◌≡◌, ℕ, ◌+◌, ◌*◌, ◌%◌, ◌<◌, ◌≤◌, List, [], map, length}
use Rattle.std.specs.Prelude.{slice_index_or}
use Rattle.std.specs.List.{range_with_len}
use Rattle.endhistory.specs.declared.history.TheConstants.{MOST_READERS, MOST_SLOTS}
use Rattle.endhistory.specs.declared.views.Sizes.{Sizes}

-- a list of blocks, each a list of words
abbrev pub Blocks : Type 0
Blocks = List (List ℕ)

-- the block of number b
abbrev pub block : Blocks → ℕ → List ℕ
block blocks b = slice_index_or blocks b []

-- each block has this many words
abbrev pub AreWide : ℕ → Blocks → Type 0
AreWide width blocks = (b : ℕ) → b < length blocks → length (block blocks b) ≡ width

-- word i of block b counts on from the base
abbrev pub count_block : ℕ → ℕ → ℕ → List ℕ
count_block base width b = map (λ i. base + b * width + i) (range_with_len 0 width)

abbrev pub count_blocks : ℕ → ℕ → ℕ → Blocks
count_blocks base width count = map (λ b. count_block base width b) (range_with_len 0 count)

-- Word 0 is the published count, word 1 + r the passed count of reader r. Then come the slots:
-- block b lies in slot b mod K, and this is its word i
abbrev pub data_word : Sizes → ℕ → ℕ → ℕ
data_word z b i = 1 + z.readers + b % z.slots * z.width + i

abbrev pub word_count : Sizes → ℕ
word_count z = 1 + z.readers + z.slots * z.width

abbrev pub sizes_of : ℕ → ℕ → ℕ → Sizes
sizes_of slots width readers = record { slots = slots; width = width; readers = readers }

-- the slots, the words of a block and the readers that a history may have
pub record IsSizes (z : Sizes) : Type 0 where
  pub some_slots : 0 < z.slots
  pub few_slots : z.slots ≤ MOST_SLOTS
  pub some_width : 0 < z.width
  pub few_words : z.width ≤ 65536
  pub some_readers : 0 < z.readers
  pub few_readers : z.readers ≤ MOST_READERS
