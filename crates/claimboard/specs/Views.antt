-- The state words, and the views of seats: what the thread that has a seat knows.
use Rattle.std.specs.Prelude.{◌≡◌, ◌≢◌, ℕ, ◌+◌, ◌==◌, ◌<◌, ◌≤◌, Bool, true, false, if◌then◌else◌}
use Rattle.std.specs.Prelude.{List, [], ◌∷◌, Option, Some, None}
use Rattle.atomic_table.specs.Seated.{TableId}
use Rattle.atomic_table.specs.declared.shared.Seat.{Seat}
use Rattle.claimboard.specs.declared.views.View.{View}

-- Word i is the state of item i.
abbrev pub free_word : ℕ
free_word = 0

abbrev pub finished_word : ℕ
finished_word = 1

-- held by the seat of the number n
abbrev pub held_word : ℕ → ℕ
held_word n = n + 2

-- i is in the list
abbrev pub has : ℕ → List ℕ → Bool
has i [] = false
has i (x ∷ xs) = if x == i then true else has i xs

abbrev pub Has : ℕ → List ℕ → Type 0
Has i xs = has i xs ≡ true

-- the list of finished items, after the word of item i was found as n
abbrev pub with_found : List ℕ → ℕ → ℕ → List ℕ
with_found xs i n = if n == finished_word then i ∷ xs else xs

-- how many numbers the seat that deals them has given out
abbrev pub dealt_or_0 : Option ℕ → ℕ
dealt_or_0 None = 0
dealt_or_0 (Some d) = d

module _ {G : Type 0} where
  -- the same knowledge, and the item that the seat holds
  abbrev pub holding : View G → Option ℕ → View G
  holding v item = record v { item = item }

  -- after one load or exchange of the word of item i, which found n
  abbrev pub found_view : View G → ℕ → ℕ → Option ℕ → View G
  found_view v i n item = record v {
    item = item;
    loads = v.loads + 1;
    found_item = i;
    found_word = n;
    finished = with_found v.finished i n;
  }

  -- nothing changed but what the seat has loaded, and what was found finished is so still
  abbrev pub OnlyLoaded : View G → View G → Type 0
  OnlyLoaded v w = (w.tag ≡ v.tag) × (w.number ≡ v.number) × (w.dealt ≡ v.dealt)
      × (w.item ≡ v.item) × (v.loads ≤ w.loads) × ((i : ℕ) → Has i v.finished → Has i w.finished)

  -- the word that was found last was loaded since v, is that of an item of the board, and isn't
  -- finished
  abbrev pub FoundUnfinished : TableId → View G → View G → Type 0
  FoundUnfinished id v w = (v.loads < w.loads) × (w.found_item < id.slots)
      × (w.found_word ≢ finished_word)

  -- the word names another seat's number
  abbrev pub IsOthers : View G → ℕ → Type 0
  IsOthers v n = (k : ℕ) × (n ≡ held_word k) × (v.number ≢ Some k)

  -- a seat of the number k that has done nothing yet
  abbrev pub fresh_view : G → ℕ → View G
  fresh_view tag k = record {
    tag = tag;
    number = Some k;
    dealt = None;
    item = None;
    loads = 0;
    found_item = 0;
    found_word = 0;
    finished = [];
  }

  -- the seat that deals the numbers, before it has dealt one
  abbrev pub first_view : G → View G
  first_view tag = record {
    tag = tag;
    number = None;
    dealt = Some 0;
    item = None;
    loads = 0;
    found_item = 0;
    found_word = 0;
    finished = [];
  }

-- what contracts see of a seat
module _ {T G : Type 0} where
  abbrev pub view : Seat (Option T) (View G) → View G
  view s = s.me.0

  -- a seat of the board of this table and tag
  abbrev pub IsOf : TableId → G → Seat (Option T) (View G) → Type 0
  IsOf id tag s = (s.table_id ≡ id) × ((view s).tag ≡ tag)

  -- such a seat that holds no item
  abbrev pub IsReady : TableId → G → Seat (Option T) (View G) → Type 0
  IsReady id tag s = IsOf id tag s × ((view s).item ≡ None)

  -- the same seat, with its number
  abbrev pub IsSameSeat : Seat (Option T) (View G) → Seat (Option T) (View G) → Type 0
  IsSameSeat s t = (t.id ≡ s.id) × ((view t).number ≡ (view s).number)

  -- the seat knows of each item that it is finished
  abbrev pub KnowsAll : TableId → Seat (Option T) (View G) → Type 0
  KnowsAll id s = (s.table_id ≡ id) × ((i : ℕ) → i < id.slots → Has i (view s).finished)

-- the slots that a seat has in hand between two calls: that of the item which it holds, with
-- nothing in it
module _ {T : Type 0} where
  abbrev pub hand_of : Option ℕ → List (ℕ × Option T)
  hand_of None = []
  hand_of (Some i) = (i, None) ∷ []
