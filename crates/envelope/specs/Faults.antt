-- The first Bad noting.
use Rattle.std.specs.Prelude.{◌≡◌, ℕ, ◌<◌, ◌≤◌, ◌⊎◌, List, Option, Some, None, true, false}
use Rattle.envelope.specs.Cells.{is_within}
use Rattle.envelope.specs.Notings.{Noted, is_bad_noting}

-- by step and then by place no later
abbrev pub IsEarlier : ℕ × ℕ → ℕ × ℕ → Type 0
IsEarlier a b = (a.0 < b.0) ⊎ ((a.0 ≡ b.0) × (a.1 ≤ b.1))

-- the least pair of step and place, by step and then by place, of the steps 0 to the last and the
-- places of the spans, at which something Bad was noted
pub record IsFirstBad (spans : List (ℕ × ℕ)) (last : ℕ) (map : Noted)
    (step place : ℕ) : Type 0 where
  pub within : step ≤ last
  pub inside : is_within spans place ≡ true
  pub bad : is_bad_noting (map step place) ≡ true
  pub least : (s k : ℕ) → s ≤ last → is_within spans k ≡ true → is_bad_noting (map s k) ≡ true
      → (step < s) ⊎ ((step ≡ s) × (place ≤ k))

-- the first Bad noting, or that there is none
abbrev pub HasFault : List (ℕ × ℕ) → ℕ → Noted → Option (ℕ × ℕ) → Type 0
HasFault spans last map None =
    (s k : ℕ) → s ≤ last → is_within spans k ≡ true → is_bad_noting (map s k) ≡ false
HasFault spans last map (Some fault) = IsFirstBad spans last map fault.0 fault.1
