-- The two points of a place, of a step and of the next one.
use Rattle.std.specs.Prelude.{ℕ, Bool, not}
use Rattle.case_model.specs.declared.points.Point.{Point}
use Rattle.case_model.specs.Runs.{calm_point}
use Rattle.fronts.specs.declared.pairs.Pair.{Pair}
use Rattle.fronts.specs.declared.pairs.Pair.TheVariants.{Calm, Other}
use Rattle.fronts.specs.declared.stretches.Stretch.{Stretch}
use Rattle.fronts.specs.Stretches.{IsPutIn}

abbrev pub first_of : Pair → Point
first_of (Calm first second) = calm_point first
first_of (Other first second) = first

abbrev pub second_of : Pair → Point
second_of (Calm first second) = calm_point second
second_of (Other first second) = second

-- of a place first the one point is put, for the even steps or for the odd ones, and then the other
-- for the others
pub record ArePut (even : Bool) (place : ℕ) (first second : Point) (old new : Stretch)
    : Type 0 where
  pub between : Stretch
  pub one : IsPutIn even place first old between
  pub other : IsPutIn (not even) place second between new
