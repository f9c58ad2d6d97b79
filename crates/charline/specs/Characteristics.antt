-- Characteristics along a pipe: the compatibility equations, with the flow at the point that the
-- characteristic leaves. A characteristic is the line `h = c - z*q` with a value c and an impedance
-- z. Friction is taken explicitly, as a loss of head in c, or linearly, as a part of z. After Wylie
-- and Streeter, Fluid Transients in Systems: method of characteristics, friction term.
use Rattle.std.specs.Prelude.{◌≤◌, nat_le, ℤ, pos, ◌+ℤ◌, ◌-ℤ◌, ◌*ℤ◌, ◌≤ℤ◌, int_le, ◌&&◌}
use Rattle.std.specs.Prelude.{unsigned_abs, Option, Some, None, if◌then◌else◌}
use Rattle.fixed_num.specs.Rounding.{rnd}
use Rattle.case_model.specs.declared.cases.Friction.{Friction}
use Rattle.case_model.specs.declared.cases.Friction.TheVariants.{Explicit, Linear}
use Rattle.case_model.specs.declared.points.Point.{Point}
use Rattle.case_model.specs.declared.points.Point.TheVariants.{Good, Bad}
use Rattle.case_model.specs.declared.meshes.Arrival.{Arrival}

-- an impedance in 1e-6 s/m2, within its limits
pub record IsImpedance (b : ℤ) : Type 0 where
  pub low : pos 100_000 ≤ℤ b
  pub high : b ≤ℤ pos 10_000_000_000_000

-- the friction of one reach in 1e-12 s2/m5, within its limits
pub record IsResistance (r : ℤ) : Type 0 where
  pub low : pos 0 ≤ℤ r
  pub high : r ≤ℤ pos 100_000_000_000_000_000_000

-- a characteristic whose value and impedance are within their limits
pub record IsArrival (a : Arrival) : Type 0 where
  pub value : unsigned_abs a.c ≤ 10_000_000_000_000
  pub impedance : IsImpedance a.b

-- the head in 1e-6 m that a flow in 1e-9 m3/s stands for at an impedance in 1e-6 s/m2
unfoldable pub impedance_head : ℤ → ℤ → ℤ
impedance_head b q = rnd (b *ℤ q) (pos 1_000_000_000)

-- the head in 1e-6 m that friction takes along one reach: rounded once for the loss at a unit of
-- flow, and once for the loss at this flow, in the direction of the flow
unfoldable pub friction_head : ℤ → ℤ → ℤ
friction_head r q =
    rnd (rnd (r *ℤ pos (unsigned_abs q)) (pos 1_000_000_000_000) *ℤ q) (pos 1_000_000_000_000)

-- the impedance in 1e-6 s/m2 of a reach with its friction at this flow
unfoldable pub friction_impedance : ℤ → ℤ → ℤ → ℤ
friction_impedance b r q = b +ℤ rnd (r *ℤ pos (unsigned_abs q)) (pos 1_000_000_000_000_000)

-- the flow in 1e-9 m3/s that a difference of heads in 1e-6 m drives through an impedance
unfoldable pub driven_flow : ℤ → ℤ → ℤ
driven_flow head b = rnd (head *ℤ pos 1_000_000_000) b

-- a characteristic in range: its value at most 10^13 in size, its impedance at most 10^13
abbrev pub in_reach : ℤ → ℤ → Option Arrival
in_reach c z =
    if nat_le (unsigned_abs c) 10_000_000_000_000 && int_le z (pos 10_000_000_000_000)
    then Some (record { c = c; b = z }) else None

-- a characteristic value, where there is one, with this impedance
abbrev pub with_impedance : ℤ → Option ℤ → Option Arrival
with_impedance z (Some c) = Some (record { c = c; b = z })
with_impedance z None = None

-- the characteristic that leaves a head downstream (C+) with this flow
abbrev pub plus_of : Friction → ℤ → ℤ → ℤ → ℤ → Option Arrival
plus_of Explicit b r h q = in_reach ((h +ℤ impedance_head b q) -ℤ friction_head r q) b
plus_of Linear b r h q = in_reach (h +ℤ impedance_head b q) (friction_impedance b r q)

-- the characteristic that leaves a head upstream (C-) with this flow
abbrev pub minus_of : Friction → ℤ → ℤ → ℤ → ℤ → Option Arrival
minus_of Explicit b r h q = in_reach ((h -ℤ impedance_head b q) +ℤ friction_head r q) b
minus_of Linear b r h q = in_reach (h -ℤ impedance_head b q) (friction_impedance b r q)

-- the characteristic that leaves a point downstream (C+), with the flow on its downstream side
unfoldable pub arrive_plus : Friction → ℤ → ℤ → Point → Option Arrival
arrive_plus friction b r (Good h qu qd v) = plus_of friction b r h qd
arrive_plus friction b r Bad = None

-- the characteristic that leaves a point upstream (C-), with the flow on its upstream side
unfoldable pub arrive_minus : Friction → ℤ → ℤ → Point → Option Arrival
arrive_minus friction b r (Good h qu qd v) = minus_of friction b r h qu
arrive_minus friction b r Bad = None

-- the flow into a node at a head, in 1e-9 m3/s, along an arrival
abbrev pub flow_in : ℤ → Arrival → ℤ
flow_in h a = driven_flow (a.c -ℤ h) a.b
