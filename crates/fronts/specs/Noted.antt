-- The points of places of a stretch, as a fold is told them.
use Rattle.std.specs.Prelude.{ℕ, ◌+◌, ◌-◌, ◌==◌, ◌&&◌, nat_le, nat_lt, if◌then◌else◌, Some}
use Rattle.std.specs.Prelude.{None}
use Rattle.envelope.specs.Notings.{Noted}
use Rattle.envelope.specs.Notings.Noting.{OfPoint}
use Rattle.fronts.specs.declared.stretches.Stretch.{Stretch}
use Rattle.fronts.specs.Stretches.{kept}

-- the points of the places from `low` on and below `high` that are kept for a step
unfoldable pub run_noted : Stretch → ℕ → ℕ → ℕ → Noted
run_noted stretch step low high s k =
    if (s == step) && (nat_le (stretch.number + low) k && nat_lt k (stretch.number + high))
    then Some (OfPoint (kept stretch step (k - stretch.number))) else None
