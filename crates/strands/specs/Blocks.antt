-- Blocks: the points that a strand hands on to one of its sides.
use Rattle.std.specs.Prelude.{◌≡◌, ℕ, ◌+◌, ◌-◌, ◌*◌, ◌/◌, ◌<◌, ◌≤◌, ◌%◌, ◌==◌, Bool, true, false}
use Rattle.std.specs.Prelude.{if◌then◌else◌, max, nat_lt}
use Rattle.case_model.specs.declared.points.Point.{Point}
use Rattle.case_model.specs.Meaning.{Meaning}
use Rattle.fronts.specs.Bands.{from_ends}
use Rattle.fronts.specs.Fronts.{spot}
use Rattle.fronts.specs.Stretches.{count_of, kept}
use Rattle.fronts.specs.declared.stretches.Stretch.{Stretch}
use Rattle.strands.specs.declared.handed.SectionBlock.{SectionBlock}

-- a block begins with so many points: `tells` says which point has a number
pub record HasPoints (count : ℕ) (point : ℕ → Point) (tells : ℕ → Point → Type 0) : Type 0 where
  pub each : (j : ℕ) → j < count → tells j (point j)

-- the place of a stretch of n reaches at a distance from its left or its right end
abbrev pub from_end : Bool → ℕ → ℕ → ℕ
from_end true n d = d
from_end false n d = n - d

-- the points of a section's block for a side, over the window from step s on: two at each
-- distance from 1 on, the earlier first
unfoldable pub section_side : Meaning → Stretch → Bool → ℕ → ℕ → Point
section_side law stretch left s j =
    spot law stretch (s + (j + 1) / 2) (from_end left (count_of stretch - 1) (j / 2 + 1))

-- what the stretch of a section keeps where the point of a number of its block stands
unfoldable pub section_tells : SectionBlock → ℕ → Point → Type 0
section_tells block j point =
    kept block.stretch.now (block.start + (j + 1) / 2)
    (from_end (block.left == 1) (count_of block.stretch.now - 1) (j / 2 + 1)) ≡ point

-- the points of a station's block for a side, over the window of w steps from step s on: two at
-- each distance from 0 on, the earlier first; where w is odd, the last distance has one point alone
abbrev pub station_step : ℕ → ℕ → ℕ
station_step w j = if j + 1 == w then w - j / 2 else w - 1 - j / 2 + j % 2

unfoldable pub station_side : Meaning → Stretch → Bool → ℕ → ℕ → ℕ → Point
station_side law stretch left w s j =
    spot law stretch (s + station_step w j) (from_end left (count_of stretch - 1) (j / 2))

-- a front that no block of this side has raised: near the station it is the tent
pub record IsBare (left : Bool) (n w s : ℕ) (front : ℕ → ℕ) : Type 0 where
  pub near : (x : ℕ) → x ≤ n → 2 * from_end left n x < w → front x ≡ s + from_end left n x
  pub far : (x : ℕ) → x ≤ n → s + from_ends n x ≤ front x

-- the same where the station's block is loaded
abbrev pub raised : Bool → ℕ → ℕ → ℕ → (ℕ → ℕ) → ℕ → ℕ
raised left n w s front x = max (front x) (s + w - from_end left n x)

-- and where it is loaded at the distances below d
abbrev pub loading : Bool → ℕ → ℕ → ℕ → ℕ → (ℕ → ℕ) → ℕ → ℕ
loading left n w s d front x =
    if nat_lt (from_end left n x) d then s + w - from_end left n x else front x
