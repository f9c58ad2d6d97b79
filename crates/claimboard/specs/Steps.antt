-- The six kinds of step, and the splitting of a seat. `m` is the seat before the step and `m'`
-- after it, each a view and the slots in hand; `i` is the item and `n` the word found.
use Rattle.std.specs.Prelude.{◌≡◌, ◌≢◌, ℕ, ◌+◌, Bool, false, [], ◌∷◌, Option, Some, None}
use Rattle.atomic_table.specs.Table.{Me}
use Rattle.claimboard.specs.declared.views.View.{View}
use Rattle.claimboard.specs.Items.{IsItem}
use Rattle.claimboard.specs.Views.{Has, free_word, finished_word, found_view, holding, fresh_view}
use Rattle.claimboard.specs.Views.{dealt_or_0, IsOthers}

module _ {T G : Type 0} where
  -- Peek: a load of a state word. An item that was found finished is found finished ever after
  abbrev pub peeked : ℕ → Me (Option T) (View G) → ℕ → Me (Option T) (View G) → Type 0
  peeked i m n m' = (m' ≡ (found_view m.0 i n m.0.item, m.1))
      × (Has i m.0.finished → n ≡ finished_word)

module _ {T G : Type 0} (number : T → ℕ) (finished : T → Bool) (good : G → T → Type 0) where
  -- the word was free: it holds this seat's number now, and the slot is in hand, with the item of
  -- that number in it
  abbrev pub Wins : ℕ → Me (Option T) (View G) → Me (Option T) (View G) → Type 0
  Wins i m m' = (x : T) × (m' ≡ (found_view m.0 i free_word (Some i), (i, Some x) ∷ []))
      × IsItem number finished good m.0.tag i false x

  -- Claim: one compare-and-exchange of a state word, from free to held by this seat
  abbrev pub claimed : ℕ → Me (Option T) (View G) → ℕ → Me (Option T) (View G) → Type 0
  claimed i m n m' =
      (n ≡ free_word → Wins i m m')
      × (n ≢ free_word → (m' ≡ (found_view m.0 i n None, []))
      × (n ≢ finished_word → IsOthers m.0 n))
      × (Has i m.0.finished → n ≡ finished_word)

module _ {T G : Type 0} where
  -- Out: the item x is taken out of slot i, which is in hand
  abbrev pub taken_out : ℕ → Me (Option T) (View G) → T → Me (Option T) (View G) → Type 0
  taken_out i m x m' = (m.1 ≡ (i, Some x) ∷ []) × (m' ≡ (m.0, (i, None) ∷ []))

  -- In: the item x is put into slot i, which is in hand
  abbrev pub put_back : ℕ → Me (Option T) (View G) → T → Me (Option T) (View G) → Type 0
  put_back i m x m' = (m.1 ≡ (i, None) ∷ []) × (m' ≡ (m.0, (i, Some x) ∷ []))

  -- Free and Finish: the state word is stored as free or as finished, and the slot is in hand no
  -- more
  abbrev pub stored : Me (Option T) (View G) → Me (Option T) (View G) → Type 0
  stored m m' = m' ≡ (holding m.0 None, [])

module _ {G : Type 0} where
  -- the seat that deals has given out one number more
  abbrev pub dealing : View G → View G
  dealing v = record v { dealt = Some (dealt_or_0 v.dealt + 1) }

  -- the seat that was dealt
  abbrev pub dealt_view : View G → View G
  dealt_view v = fresh_view v.tag (dealt_or_0 v.dealt)

  -- a split copy has no number and no item, and keeps the list of finished items
  abbrev pub copy_of : View G → View G
  copy_of v =
      record v {
        number = None;
        dealt = None;
        item = None;
        loads = 0;
        found_item = 0;
        found_word = 0;
      }
