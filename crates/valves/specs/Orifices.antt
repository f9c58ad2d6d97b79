-- The flow through a valve: the square of a flow is to a head loss as at the flow q0 and the loss
-- h0, times the square of the opening. After Wylie and Streeter, Fluid Transients in Systems: valve
-- at the downstream end of a pipe, valve in a line.
use Rattle.std.specs.Prelude.{◌≡◌, false, ℤ, pos, neg_ℤ, ◌+ℤ◌, ◌-ℤ◌, ◌*ℤ◌, int_lt, unsigned_abs}
use Rattle.std.specs.Prelude.{if◌then◌else◌}
use Rattle.fixed_num.specs.Rounding.{rnd}
use Rattle.case_model.specs.Limits.{IsWithin, IsValve}
use Rattle.case_model.specs.Refusals.{is_over}
use Rattle.fixed_num.specs.Roots.{root}

-- a valve on pipes of this impedance, all together, that is not over its limit: numbers within
-- their limits, q0 in 1e-9 m3/s and h0 in 1e-6 m, and b*q0^2 at most 2*h0*10^24
pub record IsOrifice (b q0 h0 : ℤ) : Type 0 where
  pub impedance : IsWithin (pos 100_000) (pos 20_000_000_000_000) b
  pub valve : IsValve q0 h0
  pub product : is_over q0 h0 b ≡ false

-- the flow of a valve at this opening (1e-6) under the head loss h0
unfoldable pub open_flow : ℤ → ℤ → ℤ
open_flow q0 opening = rnd (q0 *ℤ opening) (pos 1_000_000)

-- the square of the flow w under the loss h0, at a loss of 1e-6 m
unfoldable pub square_flow : ℤ → ℤ → ℤ
square_flow w h0 = rnd (w *ℤ w) h0

-- half the flow at which the pipes' impedance loses as much as the valve
unfoldable pub half_flow : ℤ → ℤ → ℤ → ℤ
half_flow b w h0 = rnd (b *ℤ (w *ℤ w)) (pos 2_000_000_000 *ℤ h0)

-- a size with the sign of a difference of heads: 0 where there is none
abbrev pub along : ℤ → ℤ → ℤ
along e q = if int_lt (pos 0) e then q else if int_lt e (pos 0) then neg_ℤ q else pos 0

-- the flow through a valve alone under a difference of heads
unfoldable pub orifice_flow : ℤ → ℤ → ℤ
orifice_flow square e = along e (root (square *ℤ pos (unsigned_abs e)))

-- the flow that a difference of characteristic values drives through pipes and valve
unfoldable pub line_flow : ℤ → ℤ → ℤ → ℤ
line_flow half square e =
    along e (root ((half *ℤ half) +ℤ (square *ℤ pos (unsigned_abs e))) -ℤ half)

-- the same, by the numbers of the valve
abbrev pub valve_flow : ℤ → ℤ → ℤ → ℤ → ℤ → ℤ
valve_flow b q0 h0 opening e =
    line_flow (half_flow b (open_flow q0 opening) h0) (square_flow (open_flow q0 opening) h0) e
