-- The rule of a history, which holds between any two steps of any threads.
-- K is the count of slots. A sum stands on the side where it needs no minus sign, as
-- published <= c + K for c >= published - K.
use Rattle.std.specs.Prelude.{◌≡◌, ℕ, ◌+◌, ◌<◌, ◌≤◌, List, [], length, replicate, slice_index}
use mathlib.Core.Option.{some}
use lib.ListN.{get_elem?}
use Rattle.atomic_table.specs.Table.{State}
use Rattle.endhistory.specs.declared.views.Sizes.{Sizes}
use Rattle.endhistory.specs.declared.views.Writing.{Writing}
use Rattle.endhistory.specs.declared.views.Reading.{Reading}
use Rattle.endhistory.specs.declared.views.Role.{Role}
use Rattle.endhistory.specs.declared.views.Role.TheVariants.{Unopened, Nobody, AsWriter, AsReader}
use Rattle.endhistory.specs.declared.views.View.{View}
use Rattle.endhistory.specs.Blocks.{Blocks, block, data_word, word_count}
use Rattle.endhistory.specs.Steps.{IsFree}

-- the first n words of block c lie in its slot
abbrev pub IsStored : Sizes → Blocks → List ℕ → ℕ → ℕ → Type 0
IsStored z blocks words c n = (i : ℕ) → i < n → slice_index words (data_word z c i)
    ≡ slice_index (block blocks c) i

-- the six parts, over the list of blocks, the words, the writer's view and each reader's view
pub record Parts (z : Sizes) (blocks : Blocks) (words : List ℕ) (w : Writing)
    (reading : ℕ → Reading) : Type 0 where
  -- 1. The published count is the writer's next block, and at most the count of blocks. (That all
  -- views keep the same list of blocks is said with the seats, below.)
  pub published : slice_index words 0 ≡ w.next
  pub within : w.next ≤ length blocks
  -- 2. The passed count of each reader is its next block, and passed <= published <= passed + K.
  pub passed : (r : ℕ) → r < z.readers → slice_index words (1 + r) ≡ (reading r).next
  pub behind : (r : ℕ) → r < z.readers → (reading r).next ≤ w.next
  pub window : (r : ℕ) → r < z.readers → w.next ≤ (reading r).next + z.slots
  -- 3. known[r] <= passed of r, and filled is over 0 only where known[r] > next - K for every r and
  -- next is below the count of blocks.
  pub known : (r : ℕ) → r < z.readers → slice_index w.known r ≤ (reading r).next
  pub each_known : length w.known ≡ z.readers
  pub filling : 0 < w.filled → IsFree z w × (w.next < length blocks)
  -- 4. seen <= published, and taken is over 0 only where seen > next.
  pub seen : (r : ℕ) → r < z.readers → (reading r).seen ≤ w.next
  pub taking : (r : ℕ) → r < z.readers → 0 < (reading r).taken → (reading r).next < (reading r).seen
  -- 5. For every block c with c < published and c >= published - K, the slot of c holds block c.
  -- The one exception is c = published - K where known[r] > c for every r.
  pub stored : (c : ℕ) → c < w.next → w.next ≤ c + z.slots
      → (w.next ≡ c + z.slots → IsFree z w → ⊥) → IsStored z blocks words c z.width
  -- 6. The first filled words of the slot of the next block are those of that block.
  pub begun : IsStored z blocks words w.next w.filled

abbrev pub start_writing : Sizes → Writing
start_writing z =
    record { next = 0; filled = 0; loads = 0; asked = []; known = replicate z.readers 0 }

abbrev pub start_reading : Reading
start_reading = record { next = 0; seen = 0; taken = 0; loads = 0 }

-- What a seat knows by its role: the writer has the writer's view, reader r has that of r, and no
-- two seats have one of these roles. `Unopened` and `Nobody` have no role: the first seat, from
-- which `make` splits the others. `dealt` counts the seats with a role.
module _ (z : Sizes) (dealt dealer writer : ℕ) (w : Writing) (seat_of : ℕ → ℕ)
    (reading : ℕ → Reading) (seat : ℕ) where
  abbrev pub Knows : Role → Type 0
  Knows Unopened = (dealt ≡ 0) × (seat ≡ dealer)
  Knows (Nobody readers) = (dealt ≡ readers + 1) × (seat ≡ dealer)
  Knows (AsWriter v) = (0 < dealt) × (v ≡ w) × (seat ≡ writer)
  Knows (AsReader r y) = (r < z.readers) × (r + 1 < dealt) × (y ≡ reading r) × (seat ≡ seat_of r)

pub record Bounded (z : Sizes) (s : State (Unit {0}) View) : Type 0 where
  pub blocks : Blocks
  pub dealt : ℕ
  pub dealer : ℕ
  pub writer : ℕ
  pub writing : Writing
  pub seat_of : ℕ → ℕ
  pub reading : ℕ → Reading
  pub sized : (0 < z.slots) × (0 < z.width)
  pub wide : length s.words ≡ word_count z
  -- the six parts
  pub parts : Parts z blocks s.words writing reading
  -- all views keep the same list of blocks, from the split on that makes the writer; before it
  -- there is one seat, which has no role
  pub same_blocks : 0 < dealt → (j : ℕ) (v : View) → get_elem? s.views j ≡ some v
      → v.blocks ≡ blocks
  pub same_sizes : (j : ℕ) (v : View) → get_elem? s.views j ≡ some v → v.sizes ≡ z
  pub each_seat : (j : ℕ) (v : View) → get_elem? s.views j ≡ some v
      → Knows z dealt dealer writer writing seat_of reading j v.role
  -- while `make` splits the seats, all counts are 0
  pub fresh : dealt ≡ 0 → writing ≡ start_writing z
  pub waiting : (r : ℕ) → dealt ≤ r + 1 → reading r ≡ start_reading
