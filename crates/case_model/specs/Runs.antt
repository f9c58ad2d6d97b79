-- Runs of inner places of a pipe, which a law computes side by side.
use Rattle.std.specs.Prelude.{◌≡◌, ℕ, ◌+◌, ◌<◌, ◌≤◌, List, length, map, slice_index_or, pos}
use Rattle.case_model.specs.declared.points.Point.{Point}
use Rattle.case_model.specs.declared.points.Point.TheVariants.{Good, Bad}
use Rattle.case_model.specs.declared.spots.Spot.{Spot}
use Rattle.case_model.specs.Meaning.{Meaning}

-- number k of these points
abbrev pub point_at : List Point → ℕ → Point
point_at points k = slice_index_or points k Bad

-- the point of a place without a cavity
abbrev pub calm_point : Spot → Point
calm_point spot = Good spot.h spot.q spot.q (pos 0)

-- number k of the points of these places, none of which has a cavity
abbrev pub calm_at : List Spot → ℕ → Point
calm_at spots k = point_at (map calm_point spots) k

-- of a run of inner places of pipe p from place `first` on, the first `done` are those that the law
-- makes of the points one step earlier from the place before the first on, and the others stay
pub record IsCalmRun (law : Meaning) (p first : ℕ) (before : List Spot) (done : ℕ)
    (old new : List Spot) : Type 0 where
  pub each : length new ≡ length old
  pub made : (k : ℕ) → k < done → calm_at new k
      ≡ law.inner p (first + k) (calm_at before k) (calm_at before (k + 1)) (calm_at before (k + 2))
  pub rest : (k : ℕ) → done ≤ k → calm_at new k ≡ calm_at old k
