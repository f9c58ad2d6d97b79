-- Places of which a stretch takes over what another one keeps.
use Rattle.std.specs.Prelude.{◌≡◌, ◌≢◌, ℕ, ◌+◌, ◌<◌, ◌≤◌, ◌⊎◌, List, length, Bool}
use Rattle.case_model.specs.declared.spots.Spot.{Spot}
use Rattle.case_model.specs.Runs.{calm_at}
use Rattle.fronts.specs.declared.stretches.Stretch.{Stretch}
use Rattle.fronts.specs.Stretches.{AreSamePlaces, kept, kept_in}

-- so many places from `place` on keep what the other stretch keeps of those from `from` on, and
-- nothing else changes
pub record IsTaken (place : ℕ) (other : Stretch) (from count : ℕ) (old new : Stretch)
    : Type 0 where
  pub same : AreSamePlaces old new
  pub taken : (t x : ℕ) → x < count → kept new t (place + x) ≡ kept other t (from + x)
  pub rest : (t x : ℕ) → (x < place) ⊎ (place + count ≤ x) → kept new t x ≡ kept old t x

-- the same of the points for the even steps, or of those for the odd ones
pub record IsRowTaken (even : Bool) (place : ℕ) (other : Stretch) (from count : ℕ)
    (old new : Stretch) : Type 0 where
  pub same : AreSamePlaces old new
  pub taken : (x : ℕ) → x < count → kept_in new even (place + x) ≡ kept_in other even (from + x)
  pub rest : (x : ℕ) → (x < place) ⊎ (place + count ≤ x) → kept_in new even x ≡ kept_in old even x
  pub others : (e : Bool) (x : ℕ) → e ≢ even → kept_in new e x ≡ kept_in old e x

-- the same of lists of spots
pub record AreCopied (place : ℕ) (other : List Spot) (from count : ℕ) (old new : List Spot)
    : Type 0 where
  pub each : length new ≡ length old
  pub copied : (x : ℕ) → x < count → calm_at new (place + x) ≡ calm_at other (from + x)
  pub rest : (x : ℕ) → (x < place) ⊎ (place + count ≤ x) → calm_at new x ≡ calm_at old x
