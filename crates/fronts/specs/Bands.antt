-- Bands of a stretch: the places whose distance is in an interval, which one step of the law
-- raises together.
use Rattle.std.specs.Prelude.{◌≡◌, ℕ, ◌+◌, ◌-◌, ◌<◌, ◌≤◌, ◌⊎◌, ◌^◌, List, length, min, Bool, not}
use Rattle.case_model.specs.declared.points.Point.{Point}
use Rattle.case_model.specs.declared.spots.Spot.{Spot}
use Rattle.case_model.specs.Meaning.{Meaning}
use Rattle.case_model.specs.Mesh.{reaches}
use Rattle.case_model.specs.Runs.{calm_at}
use Rattle.fronts.specs.declared.stencil.Places.{Places}
use Rattle.fronts.specs.declared.stretches.Stretch.{Stretch}
use Rattle.fronts.specs.Stretches.{AreSamePlaces, count_of, is_even, kept, slot}

-- the distance of place x of 0 to n from the nearer end
abbrev pub from_ends : ℕ → ℕ → ℕ
from_ends n x = min x (n - x)

-- and from the place c
abbrev pub from_place : ℕ → ℕ → ℕ
from_place c x = (c - x) + (x - c)

-- what the law makes of the points that a stretch keeps for a step: the point of place x one step
-- later
abbrev pub later_point : Meaning → Stretch → ℕ → ℕ → Point
later_point law stretch step x =
    law.inner stretch.pipe (stretch.first + x)
    (kept stretch step (x - 1)) (kept stretch step x) (kept stretch step (x + 1))

-- the places whose distance is at least `low` and below `high` are one step further, and nothing
-- else changes
pub record IsStepped (law : Meaning) (step : ℕ) (distance : ℕ → ℕ) (low high : ℕ)
    (old new : Stretch) : Type 0 where
  pub same : AreSamePlaces old new
  pub inner : (x : ℕ) → x < count_of old → low ≤ distance x → distance x < high
      → (0 < x) × (x + 1 < count_of old)
  pub inside : (t x : ℕ) → x < count_of old → low ≤ distance x → distance x < high
      → is_even t ≡ is_even (step + 1) → kept new t x ≡ later_point law old step x
  pub outside : (t x : ℕ) → x < count_of old → (distance x < low) ⊎ (high ≤ distance x)
      → kept new t x ≡ kept old t x
  pub before : (t x : ℕ) → is_even t ≡ is_even step → kept new t x ≡ kept old t x

-- a stretch lies on a pipe of the mesh
pub record IsOnMesh (law : Meaning) (stretch : Stretch) : Type 0 where
  pub pipe : stretch.pipe < length law.mesh.pipes
  pub fits : stretch.first + count_of stretch ≤ reaches law.mesh stretch.pipe + 1
  pub small : reaches law.mesh stretch.pipe < 2 ^ 32

-- of these places the first `done` are made of the points one step earlier, and the others stay
pub record AreMade (law : Meaning) (places : Places) (done : ℕ) (earlier old new : List Spot)
    : Type 0 where
  pub each : length new ≡ length old
  pub inside : (x : ℕ) → places.low ≤ x → x < places.low + done
      → calm_at new x
      ≡ law.inner places.pipe (places.first + x)
      (calm_at earlier (x - 1)) (calm_at earlier x) (calm_at earlier (x + 1))
  pub outside : (x : ℕ) → (x < places.low) ⊎ (places.low + done ≤ x)
      → calm_at new x ≡ calm_at old x

-- the same where the points of the even steps and those of the odd ones are in one list
pub record AreRaised (law : Meaning) (places : Places) (even : Bool) (done : ℕ)
    (old new : List Spot) : Type 0 where
  pub each : length new ≡ length old
  pub inside : (x : ℕ) → places.low ≤ x → x < places.low + done
      → calm_at new (slot places.count (not even) x)
      ≡ law.inner places.pipe (places.first + x)
      (calm_at old (slot places.count even (x - 1)))
      (calm_at old (slot places.count even x))
      (calm_at old (slot places.count even (x + 1)))
  pub outside : (x : ℕ) → x < places.count → (x < places.low) ⊎ (places.low + done ≤ x)
      → calm_at new (slot places.count (not even) x)
      ≡ calm_at old (slot places.count (not even) x)
  pub before : (x : ℕ) → x < places.count
      → calm_at new (slot places.count even x) ≡ calm_at old (slot places.count even x)
