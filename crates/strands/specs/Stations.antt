-- The stretch of a seam, around the station in its middle, and the fold that notes it.
use Rattle.std.specs.Prelude.{ℕ, ◌+◌, ◌-◌, ◌*◌, ◌/◌}
use Rattle.envelope.specs.Cells.{AreInOneSpan}
use Rattle.envelope.specs.Folds.{spans_of}
use Rattle.envelope.specs.declared.folds.Fold.{Fold}
use Rattle.fronts.specs.Bands.{from_place}
use Rattle.fronts.specs.Fronts.{fan, fan_since}
use Rattle.fronts.specs.declared.stretches.Stretch.{Stretch}

-- how many places a seam keeps to each side over a window of w steps
abbrev pub half : ℕ → ℕ
half w = (w + 1) / 2

-- the front around the seam after k steps of the window from step s on, and since when points are
-- held
abbrev pub seam_front : ℕ → ℕ → ℕ → ℕ → ℕ
seam_front w s k x = fan s w k (from_place (half w) x)

abbrev pub seam_since : ℕ → ℕ → ℕ → ℕ
seam_since w s x = fan_since s (from_place (half w) x)

-- the fold has the seam and the places of its triangles
abbrev pub NotesTriangles : ℕ → Stretch → Fold → Type 0
NotesTriangles w stretch fold =
    AreInOneSpan (spans_of fold) (stretch.number + (half w - (w - 1) / 2)) (2 * ((w - 1) / 2) + 1)
