-- What an item is to the board: its number, whether it is finished, and the fact that it is good
-- for a tag.
use Rattle.std.specs.Prelude.{◌≡◌, ℕ, ◌<◌, Bool, List, length, slice_index_or}

module _ {T G : Type 0} (number : T → ℕ) (finished : T → Bool) (good : G → T → Type 0) where
  -- x has the number i and is good for the tag, and `is` says whether it is finished
  abbrev pub IsItem : G → ℕ → Bool → T → Type 0
  IsItem tag i is x = (number x ≡ i) × good tag x × (finished x ≡ is)

  -- the item at each place has the number of its place
  abbrev pub AreItems : G → Bool → List T → Type 0
  AreItems tag is xs = (i : ℕ) (d : T) → i < length xs → IsItem tag i is (slice_index_or xs i d)
