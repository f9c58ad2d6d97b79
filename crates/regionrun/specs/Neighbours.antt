-- The strands beside one whose turn it is.
use Rattle.std.specs.Prelude.{◌≡◌, ℕ, ◌+◌, ◌<◌, Bool, if◌then◌else◌}
use Rattle.case_model.specs.Meaning.{Meaning}
use Rattle.regions.specs.declared.shapes.Layout.{Layout}
use Rattle.regions.specs.Sides.{back_of, side_of}
use Rattle.regionrun.specs.declared.frontiers.Frontier.{Frontier}
use Rattle.regionrun.specs.Engine.{IsLending}
use Rattle.regionrun.specs.Right.{IsRight}

-- this is the neighbour of strand x at side c in the turn of region r of the sections or of the
-- stations, and `back` says which of its own sides strand x is
pub record IsNeighbour (law : Meaning) (layout : Layout) (section : Bool) (r x c back : ℕ)
    (frontier : Frontier) : Type 0 where
  pub number_is : frontier.number ≡ side_of layout law.mesh x c
  pub back_is : back ≡ back_of layout law.mesh x c
  pub below : back < frontier.sides
  pub right : IsRight law layout frontier
  pub computed_is : frontier.computed ≡ (if section then r else r + 1)
  pub lending : IsLending law layout frontier
