-- A pump between two pipes, by the points of its curve: the rise that it gives to a flow. After
-- Wylie and Streeter, Fluid Transients in Systems: centrifugal pumps, similarity of speeds.
use Rattle.std.specs.Prelude.{ℕ, ◌+◌, ◌-◌, ℤ, pos, ◌+ℤ◌, ◌-ℤ◌, ◌*ℤ◌, int_le, int_lt, Bool}
use Rattle.std.specs.Prelude.{if◌then◌else◌, List, length, drop, min}
use Rattle.std.specs.List.{position_or_len}
use Rattle.std.specs.Int.{int_max}
use Rattle.fixed_num.specs.Rounding.{rnd}
use Rattle.case_model.specs.declared.meshes.Arrival.{Arrival}
use Rattle.case_model.specs.declared.meshes.Through.{Through}
use Rattle.case_model.specs.Limits.{entry_at}
use Rattle.charline.specs.Characteristics.{driven_flow}
use Rattle.valves.specs.Devices.{through}

-- a number times a speed ratio (1e-6)
unfoldable pub scaled : ℤ → ℤ → ℤ
scaled speed x = rnd (speed *ℤ x) (pos 1_000_000)

-- a point of a curve at a speed ratio: its flow goes with the speed, its rise with the square
unfoldable pub point_at : ℤ → ℤ × ℤ → ℤ × ℤ
point_at speed p = (scaled speed p.0, scaled speed (scaled speed p.1))

-- what is left of a difference of heads e and the rise at a point, behind the pipes' impedance b
unfoldable pub net_head : ℤ → ℤ → ℤ × ℤ → ℤ
net_head e b p = (e +ℤ p.1) -ℤ rnd (b *ℤ p.0) (pos 1_000_000_000)

-- whether nothing is left at a point of the curve
abbrev pub is_spent : ℤ → ℤ → ℤ → ℤ × ℤ → Bool
is_spent e b speed p = int_le (net_head e b (point_at speed p)) (pos 0)

-- the segment of the curve that is worked on: the first at whose right point nothing is left, else
-- the last
unfoldable pub segment : ℤ → ℤ → ℤ → List (ℤ × ℤ) → ℕ
segment e b speed curve =
    min (position_or_len (is_spent e b speed) (drop 1 curve)) (length curve - 2)

-- the flow at which nothing is left on the line from one point to another
unfoldable pub crossing : ℤ → ℤ → ℤ × ℤ → ℤ × ℤ → ℤ
crossing e b from to =
    rnd ((((e +ℤ from.1) *ℤ (to.0 -ℤ from.0)) +ℤ ((from.1 -ℤ to.1) *ℤ from.0)) *ℤ pos 1_000_000_000)
    (((from.1 -ℤ to.1) *ℤ pos 1_000_000_000) +ℤ (b *ℤ (to.0 -ℤ from.0)))

-- the same on a segment of the curve at a speed ratio
abbrev pub crossing_at : ℤ → ℤ → ℤ → List (ℤ × ℤ) → ℕ → ℤ
crossing_at e b speed curve k =
    crossing e b (point_at speed (entry_at curve k)) (point_at speed (entry_at curve (k + 1)))

-- the flow of a pump that may turn back: below a hundredth of its speed it gives no rise
abbrev pub free_flow : ℤ → ℤ → ℤ → List (ℤ × ℤ) → ℤ
free_flow e b speed curve =
    if int_lt speed (pos 10_000) then driven_flow e b
    else crossing_at e b speed curve (segment e b speed curve)

-- what goes through a pump with a check valve: never a flow back
unfoldable pub pump_through : List (ℤ × ℤ) → ℤ → Arrival → Arrival → Through
pump_through curve speed one two =
    through one two (int_max (free_flow (one.c -ℤ two.c) (one.b +ℤ two.b) speed curve) (pos 0))
