use Rattle.std.specs.Prelude.{◌≡◌, ℕ, zero, suc, ◌<◌, ◌≤◌, ◌⊎◌, Option, Some, None, position}
use Rattle.std.specs.Option.{option_map}
use Rattle.case_model.specs.Meaning.{Meaning}
use Rattle.case_model.specs.Places.{bad_places, IsBadAt}

-- the first fault of one row: its step, and the least place number that is Bad
unfoldable pub row_fault : Meaning → ℕ → Option (ℕ × ℕ)
row_fault law s = option_map (λ k. (s, k)) (position (λ bad. bad) (bad_places law s))

-- an earlier fault, or else a later one
abbrev pub earlier_or : Option (ℕ × ℕ) → Option (ℕ × ℕ) → Option (ℕ × ℕ)
earlier_or (Some fault) later = Some fault
earlier_or None later = later

-- the first fault: the least step from 0 to the last with a Bad place, and its least Bad place
unfoldable pub first_fault : Meaning → ℕ → Option (ℕ × ℕ)
first_fault law zero = row_fault law 0
first_fault law (suc last) = earlier_or (first_fault law last) (row_fault law (suc last))

-- a pair of step and place that is Bad, and the least of all that are, up to the last step
pub record IsFirstFault (law : Meaning) (last step place : ℕ) : Type 0 where
  pub within : step ≤ last
  pub bad : IsBadAt law step place
  pub least : (s k : ℕ) → s ≤ last → IsBadAt law s k → (step < s) ⊎ ((step ≡ s) × (place ≤ k))
