-- What follows from the rule.
use Rattle.std.specs.Prelude.{◌≡◌, ℕ, ◌+◌, ◌%◌, ◌<◌, List, slice_index}
use mathlib.Core.Option.{none}
use Rattle.atomic_table.specs.Table.{Allows, step}
use Rattle.endhistory.specs.declared.views.Sizes.{Sizes}
use Rattle.endhistory.specs.declared.views.Role.TheVariants.{AsWriter, AsReader}
use Rattle.endhistory.specs.declared.views.Writing.{Writing}
use Rattle.endhistory.specs.declared.views.Reading.{Reading}
use Rattle.endhistory.specs.Blocks.{Blocks, block, data_word}
use Rattle.endhistory.specs.Steps.{CheckNeeds, FillNeeds, PublishNeeds, TakeNeeds, PassNeeds}
use Rattle.endhistory.specs.Rule.{Parts, Bounded}
use Rattle.endhistory.specs.Tells.{Here, checked, filled, published, looked, taken, passed}

-- a word that is stored into the slot of an older block: every reader has passed that block
abbrev pub StoresOverPassed : Type 0
StoresOverPassed = (z : Sizes) (blocks : Blocks) (words : List ℕ) (w : Writing)
    (reading : ℕ → Reading) (word x : ℕ) → 0 < z.slots → Parts z blocks words w reading
    → FillNeeds z blocks w word x
    → (c r : ℕ) → c < w.next → c % z.slots ≡ w.next % z.slots → r < z.readers
    → c < slice_index words (1 + r)

-- while the next block is being filled, every reader has passed each older block of that slot
abbrev pub FillsOverPassed : Type 0
FillsOverPassed = (z : Sizes) (blocks : Blocks) (words : List ℕ) (w : Writing)
    (reading : ℕ → Reading) → 0 < z.slots → Parts z blocks words w reading → 0 < w.filled
    → (c r : ℕ) → c < w.next → c % z.slots ≡ w.next % z.slots → r < z.readers
    → c < slice_index words (1 + r)

-- a block that a reader has seen published and has not passed lies in its slot, whole
abbrev pub SeenIsStored : Type 0
SeenIsStored = (z : Sizes) (blocks : Blocks) (words : List ℕ) (w : Writing) (reading : ℕ → Reading)
    → Parts z blocks words w reading
    → (r i : ℕ) → r < z.readers → (reading r).next < (reading r).seen → i < z.width
    → slice_index words (data_word z (reading r).next i)
    ≡ slice_index (block blocks (reading r).next) i

-- each kind of step keeps the rule where its needs are met, and tells the view after it
pub record StepsKeep : Type 0 where
  pub check : (z : Sizes) (slots id : ℕ) (me : Here) (w : Writing) (r word : ℕ)
      → me.0.role ≡ AsWriter w → CheckNeeds z word r
      → Allows (Bounded z) slots id me word (λ n. n) (checked (step slots word 0 0 none) me)
  pub fill : (z : Sizes) (slots id : ℕ) (me : Here) (w : Writing) (word x : ℕ)
      → me.0.role ≡ AsWriter w → FillNeeds z me.0.blocks w word x
      → Allows (Bounded z) slots id me word (λ _. x) (λ _. filled (step slots word x 0 none) me x)
  pub publish : (z : Sizes) (slots id : ℕ) (me : Here) (w : Writing) (word x : ℕ)
      → me.0.role ≡ AsWriter w → PublishNeeds z w word x
      → Allows (Bounded z) slots id me word (λ _. x)
      (λ _. published (step slots word x 0 none) me x)
  pub look : (z : Sizes) (slots id : ℕ) (me : Here) (r : ℕ) (y : Reading) → me.0.role ≡ AsReader r y
      → Allows (Bounded z) slots id me 0 (λ n. n) (looked (step slots 0 0 0 none) me)
  pub take : (z : Sizes) (slots id : ℕ) (me : Here) (r : ℕ) (y : Reading) (word : ℕ)
      → me.0.role ≡ AsReader r y → TakeNeeds z y word
      → Allows (Bounded z) slots id me word (λ n. n) (taken (step slots word 0 0 none) me)
  pub pass : (z : Sizes) (slots id : ℕ) (me : Here) (r : ℕ) (y : Reading) (word x : ℕ)
      → me.0.role ≡ AsReader r y → PassNeeds z r y word x
      → Allows (Bounded z) slots id me word (λ _. x) (λ _. passed (step slots word x 0 none) me x)
