use Rattle.std.specs.Prelude.{ℤ, pos, ◌≤ℤ◌, ◌≤◌, ◌&&◌, nat_le, int_le, if◌then◌else◌, unsigned_abs}
use Rattle.case_model.specs.declared.points.Point.{Point}
use Rattle.case_model.specs.declared.points.Point.TheVariants.{Good, Bad}
use Rattle.case_model.specs.declared.states.NodeState.{NodeState}
use Rattle.case_model.specs.declared.states.NodeState.TheVariants.{Good as GoodState}
use Rattle.case_model.specs.declared.states.NodeState.TheVariants.{Bad as BadState}

-- the numbers of a point are in range: head in 1e-6 m, flows in 1e-9 m3/s, volume in 1e-9 m3
pub record InRange (h qu qd v : ℤ) : Type 0 where
  pub head : unsigned_abs h ≤ 100_000_000_000
  pub up : unsigned_abs qu ≤ 1_000_000_000_000
  pub down : unsigned_abs qd ≤ 1_000_000_000_000
  pub low : pos 0 ≤ℤ v
  pub volume : unsigned_abs v ≤ 1_000_000_000_000_000

-- a point that is Bad, or Good with its numbers in range
abbrev pub IsPoint : Point → Type 0
IsPoint (Good h qu qd v) = InRange h qu qd v
IsPoint Bad = Unit {0}

-- the point with these numbers: Bad where one is out of range
unfoldable pub point_of : ℤ → ℤ → ℤ → ℤ → Point
point_of h qu qd v =
    if nat_le (unsigned_abs h) 100_000_000_000 && nat_le (unsigned_abs qu) 1_000_000_000_000
    && nat_le (unsigned_abs qd) 1_000_000_000_000 && int_le (pos 0) v
    && nat_le (unsigned_abs v) 1_000_000_000_000_000
    then Good h qu qd v
    else Bad

-- the numbers of a node's state are in range: head in 1e-6 m, volume in 1e-9 m3, growth in 1e-9
-- m3/s
pub record InStateRange (h v g : ℤ) : Type 0 where
  pub head : unsigned_abs h ≤ 100_000_000_000
  pub low : pos 0 ≤ℤ v
  pub volume : unsigned_abs v ≤ 1_000_000_000_000_000
  pub growth : unsigned_abs g ≤ 10_000_000_000_000_000

-- a node's state that is Bad, or Good with its numbers in range
abbrev pub IsState : NodeState → Type 0
IsState (GoodState h v g) = InStateRange h v g
IsState BadState = Unit {0}

-- the node's state with these numbers: Bad where one is out of range
unfoldable pub state_of : ℤ → ℤ → ℤ → NodeState
state_of h v g =
    if nat_le (unsigned_abs h) 100_000_000_000 && int_le (pos 0) v
    && nat_le (unsigned_abs v) 1_000_000_000_000_000
    && nat_le (unsigned_abs g) 10_000_000_000_000_000
    then GoodState h v g
    else BadState
