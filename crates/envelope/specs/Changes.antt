-- What one step of a fold's work leaves where it was in memory, and what it changes.
use Rattle.std.specs.Prelude.{◌≡◌, ◌≢◌, ℕ, ◌<◌, ◌≤◌, ◌⊎◌, Option, Some, None, true, false}
use Rattle.case_model.specs.Samples.{Sample}
use Rattle.envelope.specs.Cells.{is_within}
use Rattle.envelope.specs.Extremes.{AgreeAlong, either}
use Rattle.envelope.specs.Folds.{IsSameFold, spans_of, steps_of, every_of}
use Rattle.envelope.specs.Layout.{StandsAt, line_in, marks_in}
use Rattle.envelope.specs.declared.folds.Fold.{Fold}

-- two folds are of the same shape, and each place has its numbers in the same cell and line
pub record IsSameLayout (old new : Fold) : Type 0 where
  pub same : IsSameFold old new
  pub marks_are : marks_in new ≡ marks_in old
  pub fault_is : new.fault ≡ old.fault

-- one sample more at a step of a place, and nothing else
pub record IsKeptAt (old new : Fold) (step place : ℕ) (sample : Sample) : Type 0 where
  pub layout : IsSameLayout old new
  pub here : (f g : ℕ → Option Sample) → AgreeAlong f g → g step ≡ Some sample →
      ((s : ℕ) → s ≢ step → g s ≡ None)
      → StandsAt old place f → StandsAt new place (either f g)
  pub others : (k : ℕ) → is_within (spans_of old) k ≡ true → k ≢ place → (f : ℕ → Option Sample)
      → StandsAt old k f → StandsAt new k f

-- what another fold has of its places from `low` on and below `high`, and nothing else
pub record AreJoined (old other new : Fold) (low high : ℕ) : Type 0 where
  pub layout : IsSameLayout old new
  pub joined : (k : ℕ) → is_within (spans_of other) k ≡ true → low ≤ k → k < high →
      (f g : ℕ → Option Sample)
      → AgreeAlong f g → StandsAt old k f → StandsAt other k g → StandsAt new k (either f g)
  pub kept : (k : ℕ) → is_within (spans_of old) k ≡ true
      → (k < low) ⊎ (high ≤ k) ⊎ (is_within (spans_of other) k ≡ false) → (f : ℕ → Option Sample)
      → StandsAt old k f → StandsAt new k f

-- each place of the other fold is one of this, with the same steps, and is sampled there where it
-- is here
pub record IsMergeable (fold other : Fold) : Type 0 where
  pub inside : (k : ℕ) → is_within (spans_of other) k ≡ true → is_within (spans_of fold) k ≡ true
  pub sampled_too : (k : ℕ) → is_within (spans_of other) k ≡ true → line_in fold k ≢ None →
      line_in other k ≢ None
  pub steps_are : steps_of other ≡ steps_of fold
  pub every_is : every_of other ≡ every_of fold
