-- Blocks beside a station: what it takes in from the section at one of its sides, and what it hands
-- on to it.
use Rattle.std.specs.Prelude.{◌≡◌, ℕ, ◌+◌, ◌-◌, ◌*◌, ◌/◌, ◌<◌, ◌≤◌, ◌&&◌, nat_le, nat_lt, Bool}
use Rattle.std.specs.Prelude.{true, false, if◌then◌else◌, ◌==◌}
use Rattle.case_model.specs.declared.points.Point.{Point}
use Rattle.case_model.specs.Meaning.{Meaning}
use Rattle.fronts.specs.Bands.{from_place}
use Rattle.fronts.specs.Fronts.{fan, fan_since, spot}
use Rattle.fronts.specs.declared.stretches.Stretch.{Stretch}
use Rattle.fronts.specs.Stretches.{kept}
use Rattle.strands.specs.Blocks.{station_step}
use Rattle.strands.specs.declared.handed.StationBlock.{StationBlock}

-- the place at a distance to the right or to the left of place `at`
abbrev pub beside : Bool → ℕ → ℕ → ℕ
beside true at d = at + d
beside false at d = at - d

-- a stretch of so many places has those of one side of place `at` up to a distance
abbrev pub HasBeside : Bool → ℕ → ℕ → ℕ → Type 0
HasBeside true at d count = at + d < count
HasBeside false at d count = (d ≤ at) × (at < count)

-- the points of a section's block over the window from step s on, where the station takes them in
unfoldable pub outer_side : Meaning → Stretch → Bool → ℕ → ℕ → ℕ → Point
outer_side law stretch right at s j =
    spot law stretch (s + (j + 1) / 2) (beside right at (j / 2 + 1))

-- the points of the station's block over the window of w steps from step s on
unfoldable pub inner_side : Meaning → Stretch → Bool → ℕ → ℕ → ℕ → ℕ → Point
inner_side law stretch right at w s j =
    spot law stretch (s + station_step w j) (beside right at (j / 2))

-- what the stretch of a station keeps where the point of a number of its block stands
unfoldable pub station_tells : StationBlock → ℕ → Point → Type 0
station_tells block j point =
    kept block.stretch.now (block.start + station_step block.window j)
    (beside (block.right == 1) block.at (j / 2)) ≡ point

-- place x lies on this side of place `at`, at a distance of 1 to `far`
abbrev pub is_beside : Bool → ℕ → ℕ → ℕ → Bool
is_beside true at far x = nat_lt at x && nat_le x (at + far)
is_beside false at far x = nat_lt x at && nat_le at (x + far)

-- a front, and since when points are held, once the section's points at the distances 1 to `far`
-- are taken in
abbrev pub taken_front : Bool → ℕ → ℕ → ℕ → ℕ → (ℕ → ℕ) → ℕ → ℕ
taken_front right at w s far front x =
    if is_beside right at far x then fan s w 0 (from_place at x) else front x

abbrev pub taken_since : Bool → ℕ → ℕ → ℕ → (ℕ → ℕ) → ℕ → ℕ
taken_since right at s far since x =
    if is_beside right at far x then fan_since s (from_place at x) else since x

-- on this side the station and its triangle are computed to the end of the window
pub record IsTriangle (right : Bool) (at w s : ℕ) (since front : ℕ → ℕ) : Type 0 where
  pub front_is : (d : ℕ) → 2 * d < w → front (beside right at d) ≡ s + (w - d)
  pub since_is : (d : ℕ) → 2 * d < w → since (beside right at d) ≤ s + d
