-- Cavities of places, kept apart from their heads and flows.
use Rattle.std.specs.Prelude.{ℕ, ℤ, pos, negsuc, int_le, if◌then◌else◌, List, map, slice_index_or}
use Rattle.case_model.specs.declared.points.Point.{Point}
use Rattle.case_model.specs.declared.points.Point.TheVariants.{Good, Bad}
use Rattle.fronts.specs.declared.cavities.Cavity.{Cavity}

-- a volume and the upstream flow; a volume of -1 says that there is no cavity, and one below that
-- the point is Bad
abbrev pub volume_and_flow : Cavity → ℤ × ℤ
volume_and_flow cavity = (cavity.v, cavity.up)

abbrev pub no_cavity : ℤ × ℤ
no_cavity = (negsuc 0, pos 0)

-- number k of these
abbrev pub cavity_at : List Cavity → ℕ → ℤ × ℤ
cavity_at cavities k = slice_index_or (map volume_and_flow cavities) k no_cavity

-- a point with another volume and upstream flow
abbrev pub filled : Point → ℤ → ℤ → Point
filled (Good h qu qd v) volume up = Good h up qd volume
filled Bad volume up = Bad

-- a point without a cavity, and what is kept apart from it
unfoldable pub with_cavity : Point → ℤ × ℤ → Point
with_cavity point cavity =
    if int_le (pos 0) cavity.0 then filled point cavity.0 cavity.1
    else if int_le (negsuc 0) cavity.0 then point else Bad
