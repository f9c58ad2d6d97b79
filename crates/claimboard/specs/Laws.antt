-- What the rule says of any two seats, and of what is finished.
use Rattle.std.specs.Prelude.{◌≡◌, ◌≢◌, ℕ, Bool, Option, Some}
use mathlib.Core.Option.{some}
use lib.ListN.{get_elem?}
use Rattle.atomic_table.specs.Table.{State}
use Rattle.claimboard.specs.declared.views.View.{View}
use Rattle.claimboard.specs.Board.{OneBoard}
use Rattle.claimboard.specs.Views.{Has}

module _ {T G : Type 0} (number : T → ℕ) (finished : T → Bool) (good : G → T → Type 0) where
  -- two seats that name one item are one seat
  abbrev pub OneHolder : Type 0
  OneHolder = (tag : G) (s : State (Option T) (View G)) (i j k : ℕ) (v w : View G)
      → OneBoard number finished good tag s
      → get_elem? s.views j ≡ some v → get_elem? s.views k ≡ some w → v.item ≡ Some i
      → w.item ≡ Some i → j ≡ k

  -- no two seats have the same number
  abbrev pub NumbersDiffer : Type 0
  NumbersDiffer = (tag : G) (s : State (Option T) (View G)) (n j k : ℕ) (v w : View G)
      → OneBoard number finished good tag s
      → get_elem? s.views j ≡ some v → get_elem? s.views k ≡ some w → v.number ≡ Some n
      → w.number ≡ Some n → j ≡ k

  -- no seat names an item that some seat has found finished
  abbrev pub FinishedIsHeldByNone : Type 0
  FinishedIsHeldByNone = (tag : G) (s : State (Option T) (View G)) (i j k : ℕ) (v w : View G)
      → OneBoard number finished good tag s
      → get_elem? s.views j ≡ some v → get_elem? s.views k ≡ some w → Has i v.finished
      → w.item ≢ Some i
