-- A stretch of places of a pipe as contracts see it: how many places it has, and the points that
-- it keeps of them.
use Rattle.std.specs.Prelude.{◌≡◌, ◌≢◌, ℕ, ◌+◌, ◌%◌, ◌==◌, nat_lt, Bool}
use Rattle.std.specs.Prelude.{if◌then◌else◌}
use Rattle.case_model.specs.declared.points.Point.{Point}
use Rattle.case_model.specs.declared.points.Point.TheVariants.{Bad}
use Rattle.case_model.specs.Runs.{calm_at}
use Rattle.fronts.specs.Cavities.{cavity_at, with_cavity}
use Rattle.fronts.specs.declared.stretches.Stretch.{Stretch}

unfoldable pub count_of : Stretch → ℕ
count_of stretch = stretch.count

abbrev pub is_even : ℕ → Bool
is_even step = step % 2 == 0

-- where the point of place x is kept in the lists of a stretch of so many places: those of the even
-- steps first
abbrev pub slot : ℕ → Bool → ℕ → ℕ
slot count even x = if even then x else count + x

-- the point that is kept there: of a calm stretch no cavity is looked at
unfoldable pub point_in : Stretch → ℕ → Point
point_in stretch k =
    if stretch.calm then calm_at stretch.spots.items k
    else with_cavity (calm_at stretch.spots.items k) (cavity_at stretch.cavities.items k)

-- the point of place x that is kept for the even steps, or for the odd ones
unfoldable pub kept_in : Stretch → Bool → ℕ → Point
kept_in stretch even x =
    if nat_lt x stretch.count then point_in stretch (slot stretch.count even x) else Bad

-- the point of place number x of the stretch that is kept for the parity of a step
abbrev pub kept : Stretch → ℕ → ℕ → Point
kept stretch step x = kept_in stretch (is_even step) x

-- a stretch of these places
pub record IsStretchOf (pipe first number count : ℕ) (stretch : Stretch) : Type 0 where
  pub pipe_is : stretch.pipe ≡ pipe
  pub first_is : stretch.first ≡ first
  pub number_is : stretch.number ≡ number
  pub count_is : count_of stretch ≡ count

-- two stretches have the same places
abbrev pub AreSamePlaces : Stretch → Stretch → Type 0
AreSamePlaces old new = IsStretchOf old.pipe old.first old.number (count_of old) new

-- a point is put where a place keeps that of a step, and nothing else changes
pub record IsPut (step place : ℕ) (point : Point) (old new : Stretch) : Type 0 where
  pub same : AreSamePlaces old new
  pub here : (t : ℕ) → is_even t ≡ is_even step → kept new t place ≡ point
  pub beside : (t x : ℕ) → x ≢ place → kept new t x ≡ kept old t x
  pub earlier : (t x : ℕ) → is_even t ≢ is_even step → kept new t x ≡ kept old t x

-- the same of the points of the even steps, or of the odd ones
pub record IsPutIn (even : Bool) (place : ℕ) (point : Point) (old new : Stretch) : Type 0 where
  pub same : AreSamePlaces old new
  pub here : kept_in new even place ≡ point
  pub beside : (e : Bool) (x : ℕ) → x ≢ place → kept_in new e x ≡ kept_in old e x
  pub other : (e : Bool) (x : ℕ) → e ≢ even → kept_in new e x ≡ kept_in old e x

-- the same of one place of the lists
pub record IsSet (at : ℕ) (point : Point) (old new : Stretch) : Type 0 where
  pub same : AreSamePlaces old new
  pub here : point_in new at ≡ point
  pub beside : (k : ℕ) → k ≢ at → point_in new k ≡ point_in old k

-- two stretches keep the same points
pub record AreSameKept (old new : Stretch) : Type 0 where
  pub same : AreSamePlaces old new
  pub points : (k : ℕ) → point_in new k ≡ point_in old k
