-- Fronts: how far each place of a stretch is computed, by closed formulas, and which points of
-- the rows of a law a stretch holds behind its front.
use Rattle.std.specs.Prelude.{◌≡◌, ◌≢◌, ℕ, ◌+◌, ◌-◌, ◌<◌, ◌≤◌, ◌⊎◌, min, max}
use Rattle.case_model.specs.declared.points.Point.{Point}
use Rattle.case_model.specs.Meaning.{Meaning}
use Rattle.case_model.specs.Rows.{row}
use Rattle.fronts.specs.declared.stretches.Stretch.{Stretch}
use Rattle.fronts.specs.Bands.{from_ends}
use Rattle.fronts.specs.Stretches.{count_of, kept}

-- the point of place x of a stretch in the row of step t
abbrev pub spot : Meaning → Stretch → ℕ → ℕ → Point
spot law stretch t x = (row law t).point stretch.pipe (stretch.first + x)

-- at each place x the point that is kept is that of the rows, for the step `front x` and the step
-- before it, as far as this isn't before `since x`
pub record Holds (law : Meaning) (since front : ℕ → ℕ) (stretch : Stretch) : Type 0 where
  pub cell : (t x : ℕ) → x < count_of stretch → since x ≤ t → t ≤ front x → front x ≤ t + 1
      → kept stretch t x ≡ spot law stretch t x

-- a place x and its neighbours have what the law reads for the step after this
pub record IsReady (step : ℕ) (since front : ℕ → ℕ) (x : ℕ) : Type 0 where
  pub low : since x ≤ step
  pub high : step ≤ front x
  pub near : front x ≤ step + 1

-- the band of places at these distances is one step before `later`, which is the front itself
-- elsewhere; all that the law reads for it is there
pub record Raises (step : ℕ) (distance : ℕ → ℕ) (low high count : ℕ) (since front later : ℕ → ℕ)
    : Type 0 where
  pub own : (x : ℕ) → x < count → low ≤ distance x → distance x < high
      → (since x ≤ step) × (front x ≡ step)
  pub left : (x : ℕ) → x < count → low ≤ distance x → distance x < high
      → IsReady step since front (x - 1)
  pub right : (x : ℕ) → x < count → low ≤ distance x → distance x < high
      → IsReady step since front (x + 1)
  pub raised : (x : ℕ) → x < count → low ≤ distance x → distance x < high → later x ≡ step + 1
  pub others : (x : ℕ) → x < count → (distance x < low) ⊎ (high ≤ distance x) → later x ≡ front x

-- the point of one place is put for a step: the front there is that step, and of the step before
-- it the stretch holds what it held
pub record Puts (step place count : ℕ) (since front sooner later : ℕ → ℕ) : Type 0 where
  pub here : later place ≡ step
  pub kept : (t : ℕ) → t + 1 ≡ step → sooner place ≤ t
      → (since place ≤ t) × (t ≤ front place) × (front place ≤ t + 1)
  pub beside : (x : ℕ) → x < count → x ≢ place → (later x ≡ front x) × (since x ≤ sooner x)

-- nothing is kept that is too old
abbrev pub ever : ℕ → ℕ
ever x = 0

-- after the regions of a section up to number m, with the window's start s = m * w: a tent over
-- the two stations
abbrev pub tent : ℕ → ℕ → ℕ → ℕ
tent s n x = s + from_ends n x

-- in region 0, after step k
abbrev pub risen : ℕ → ℕ → ℕ → ℕ
risen n k x = min k (from_ends n x)

-- and the blocks of both stations of the window of w steps from s on are loaded
abbrev pub loaded : ℕ → ℕ → ℕ → ℕ → ℕ
loaded s w n x = max (s + from_ends n x) (s + w - from_ends n x)

-- and the band is swept up to step s + k
abbrev pub swept : ℕ → ℕ → ℕ → ℕ → ℕ → ℕ
swept s w n k x = max (loaded s w n x) (min (s + k) (s + w + from_ends n x))

-- around a station, by the distance d from it: the block of the window from s on is loaded, and
-- the triangle is computed up to step s + k
abbrev pub fan : ℕ → ℕ → ℕ → ℕ → ℕ
fan s w k d = s + min (max d k) (w - d)

-- the section's block has at distance d the points from this step on
abbrev pub fan_since : ℕ → ℕ → ℕ
fan_since s d = s + (d - 1)
