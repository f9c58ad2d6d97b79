-- A device between two pipes, with one flow and a head on each side. After Wylie and Streeter,
-- Fluid Transients in Systems: valve in a line.
use Rattle.std.specs.Prelude.{ℤ, ◌+ℤ◌, ◌-ℤ◌, nat_le, unsigned_abs, Bool, ◌&&◌, if◌then◌else◌}
use Rattle.case_model.specs.declared.meshes.Arrival.{Arrival}
use Rattle.case_model.specs.declared.meshes.Through.{Through}
use Rattle.case_model.specs.declared.meshes.Through.TheVariants.{Good, Bad}
use Rattle.case_model.specs.Refusals.{is_over}
use Rattle.charline.specs.Characteristics.{impedance_head}
use Rattle.valves.specs.Orifices.{valve_flow}

-- whether a flow and a head are in range
abbrev pub is_flow : ℤ → Bool
is_flow q = nat_le (unsigned_abs q) 1_000_000_000_000

abbrev pub is_head : ℤ → Bool
is_head h = nat_le (unsigned_abs h) 100_000_000_000

-- a flow and the heads on both sides: Bad where one is out of range
abbrev pub through_of : ℤ → ℤ → ℤ → Through
through_of q h1 h2 = if is_flow q && is_head h1 && is_head h2 then Good q h1 h2 else Bad

-- a device with this flow from the first pipe to the second
unfoldable pub through : Arrival → Arrival → ℤ → Through
through one two q = through_of q (one.c -ℤ impedance_head one.b q) (two.c +ℤ impedance_head two.b q)

-- a valve in a line, with the flow q0 under the loss h0 when it is open: Bad where it is over its
-- limit on both pipes together
unfoldable pub inline_through : ℤ → ℤ → ℤ → Arrival → Arrival → Through
inline_through q0 h0 opening one two =
    if is_over q0 h0 (one.b +ℤ two.b) then Bad
    else through one two (valve_flow (one.b +ℤ two.b) q0 h0 opening (one.c -ℤ two.c))
