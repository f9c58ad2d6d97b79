-- The rule of a board. It holds between any two steps of any threads.
use Rattle.std.specs.Prelude.{◌≡◌, ℕ, ◌<◌, Bool, true, false, List, length, slice_index, Option}
use Rattle.std.specs.Prelude.{Some, None}
use mathlib.Core.Option.{some, none}
use mathlib.Core.Option as maybe
use lib.ListN.{get_elem?}
use Rattle.atomic_table.specs.Table.{State}
use Rattle.claimboard.specs.declared.views.View.{View}
use Rattle.claimboard.specs.Items.{IsItem}
use Rattle.claimboard.specs.Views.{Has, free_word, finished_word, held_word}

module _ {G : Type 0} where
  -- the view of the seat that has the number n names item i
  abbrev pub Names : (ℕ → ℕ) → List (View G) → ℕ → ℕ → Type 0
  Names seat_of views i n = (v : View G) × (get_elem? views (seat_of n) ≡ some v)
      × (v.number ≡ Some n) × (v.item ≡ Some i)

  -- What seat j knows is so. The seat of each number is one seat, a seat without a number names no
  -- item, and one seat deals the numbers
  pub record SeatStands (tag : G) (dealt dealer : ℕ) (seat_of : ℕ → ℕ)
      (words : List ℕ) (j : ℕ) (v : View G) : Type 0 where
    pub same_tag : v.tag ≡ tag
    pub numbered : (n : ℕ) → v.number ≡ Some n → (n < dealt) × (j ≡ seat_of n)
    pub bare : v.number ≡ None → v.item ≡ None
    pub names : (i n : ℕ) → v.item ≡ Some i → v.number ≡ Some n
        → (i < length words) × (slice_index words i ≡ held_word n)
    pub finished_items : (i : ℕ) → Has i v.finished
        → (i < length words) × (slice_index words i ≡ finished_word)
    pub deals : (d : ℕ) → v.dealt ≡ Some d → (d ≡ dealt) × (j ≡ dealer)

module _ {T G : Type 0} (number : T → ℕ) (finished : T → Bool) (good : G → T → Type 0) where
  -- an item lies in slot i, which no seat has in hand. It has the number i and is good for the tag,
  -- and `is` says whether it is finished
  abbrev pub Lies : G → List (maybe.Option (Option T)) → ℕ → Bool → Type 0
  Lies tag homes i is = (x : T) × (get_elem? homes i ≡ some (some (Some x)))
      × IsItem number finished good tag i is x

  -- Item i is free, finished, or held by one seat. Where it is held, its slot is out with that
  -- seat, so no other seat reaches it
  pub record ItemStands (tag : G) (seat_of : ℕ → ℕ)
      (homes : List (maybe.Option (Option T))) (views : List (View G)) (i word : ℕ) : Type 0 where
    pub free : word ≡ free_word → Lies tag homes i false
    pub done : word ≡ finished_word → Lies tag homes i true
    pub held : (n : ℕ) → word ≡ held_word n → (get_elem? homes i ≡ some none)
        × Names seat_of views i n

  -- one board, of which every view keeps the tag
  pub record OneBoard (tag : G) (s : State (Option T) (View G)) : Type 0 where
    pub dealt : ℕ
    pub dealer : ℕ
    pub seat_of : ℕ → ℕ
    pub a_slot_each : length s.words ≡ length s.homes
    pub each_item : (i : ℕ) → i < length s.words
        → ItemStands tag seat_of s.homes s.views i (slice_index s.words i)
    pub each_seat : (j : ℕ) (v : View G) → get_elem? s.views j ≡ some v
        → SeatStands tag dealt dealer seat_of s.words j v
