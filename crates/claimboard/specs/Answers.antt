-- What the answers of the calls say.
use Rattle.std.specs.Prelude.{◌≡◌, ℕ, Bool, false, Some, None}
use Rattle.claimboard.specs.declared.claims.Claim.{Claim}
use Rattle.claimboard.specs.declared.claims.Claim.TheVariants.{Held, Busy, Finished}
use Rattle.claimboard.specs.declared.views.View.{View}
use Rattle.claimboard.specs.Items.{IsItem}
use Rattle.claimboard.specs.Views.{free_word, finished_word, IsOthers}

module _ {T G : Type 0} (number : T → ℕ) (finished : T → Bool) (good : G → T → Type 0) where
  -- The claim of item i by the seat whose view is then v. Held: the word was free, and this seat's
  -- view names the item now. Busy: the word held another seat's number. Finished: the word was
  -- finished
  abbrev pub Answers : G → ℕ → Claim T → View G → Type 0
  Answers tag i (Held x) v = (v.found_word ≡ free_word) × (v.item ≡ Some i)
      × IsItem number finished good tag i false x
  Answers tag i Busy v = IsOthers v v.found_word × (v.item ≡ None)
  Answers tag i Finished v = (v.found_word ≡ finished_word) × (v.item ≡ None)
