-- A valve at the end of a pipe, that discharges against an outlet head. Where the head of the
-- liquid would fall below the vapour head it is held there, and a cavity grows by the valve's flow
-- less the pipe's. After Wylie and Streeter, Fluid Transients in Systems: valve at the downstream
-- end of a pipe, column separation.
use Rattle.std.specs.Prelude.{ℤ, pos, ◌-ℤ◌, int_le, int_lt, unsigned_abs, ◌==◌, ◌&&◌, if◌then◌else◌}
use Rattle.std.specs.Int.{int_max}
use Rattle.case_model.specs.declared.meshes.Arrival.{Arrival}
use Rattle.case_model.specs.declared.meshes.CavityRule.{CavityRule}
use Rattle.case_model.specs.declared.states.NodeState.{NodeState}
use Rattle.case_model.specs.declared.states.NodeState.TheVariants.{Good, Bad}
use Rattle.case_model.specs.Range.{state_of}
use Rattle.case_model.specs.Refusals.{is_over}
use Rattle.charline.specs.Characteristics.{flow_in, impedance_head}
use Rattle.charline.specs.Cavity.{cavity_volume}
use Rattle.valves.specs.declared.discharges.Valve.{Valve}
use Rattle.valves.specs.Orifices.{open_flow, square_flow, orifice_flow, valve_flow}
use Rattle.valves.specs.Devices.{is_flow}

-- a state with the flow into the node, which is 0 where the state is Bad
abbrev pub flowing : NodeState → ℤ → NodeState × ℤ
flowing (Good h v g) q = (Good h v g, q)
flowing Bad q = (Bad, pos 0)

-- a node of one end with these numbers: Bad where one is out of range
abbrev pub end_at : ℤ → ℤ → ℤ → ℤ → NodeState × ℤ
end_at h v g q = flowing (if is_flow q then state_of h v g else Bad) q

-- the flow through the valve where no cavity is, and the head at the valve then
abbrev pub liquid_flow : Valve → ℤ → Arrival → ℤ
liquid_flow valve opening a = valve_flow a.b valve.q0 valve.h0 opening (a.c -ℤ valve.outlet)

abbrev pub liquid_head : Arrival → ℤ → ℤ
liquid_head a q = a.c -ℤ impedance_head a.b q

-- the valve's flow at a head of the node
abbrev pub outflow : Valve → ℤ → ℤ → ℤ
outflow valve opening h =
    orifice_flow (square_flow (open_flow valve.q0 opening) valve.h0) (h -ℤ valve.outlet)

-- the growth of a cavity at the valve
abbrev pub discharge_growth : ℤ → Valve → ℤ → Arrival → ℤ
discharge_growth hv valve opening a = outflow valve opening hv -ℤ flow_in hv a

-- a cavity with this growth and this volume after the step: kept while the volume is positive, else
-- closed, at the head of the liquid but not below the vapour head
abbrev pub kept_or_closed : ℤ → ℤ → ℤ → ℤ → ℤ → ℤ → NodeState × ℤ
kept_or_closed hv q head growth volume inflow =
    if int_lt (pos 0) volume then end_at hv volume growth inflow
    else end_at (int_max head hv) (pos 0) (pos 0) q

-- a valve with this flow and head of the liquid, with the volume and the growth of the step before
abbrev pub discharge_after : CavityRule → Valve → ℤ → ℤ → ℤ → ℤ → ℤ → Arrival → NodeState × ℤ
discharge_after rule valve opening q head volume growth a =
    if (unsigned_abs volume == 0) && int_le rule.hv head
    then end_at head (pos 0) (pos 0) q
    else kept_or_closed rule.hv q head (discharge_growth rule.hv valve opening a)
    (cavity_volume rule volume growth (discharge_growth rule.hv valve opening a))
    (flow_in rule.hv a)

-- the new state of the node and the flow into it along its end, from the old state: Bad where that
-- is, and where the valve is over its limit on its pipe
unfoldable pub discharge_end : CavityRule → Valve → ℤ → NodeState → Arrival → NodeState × ℤ
discharge_end rule valve opening (Good h v g) a =
    if is_over valve.q0 valve.h0 a.b then (Bad, pos 0)
    else discharge_after rule valve opening (liquid_flow valve opening a)
    (liquid_head a (liquid_flow valve opening a)) v g a
discharge_end rule valve opening Bad a = (Bad, pos 0)

unfoldable pub discharge_state : CavityRule → Valve → ℤ → NodeState → Arrival → NodeState
discharge_state rule valve opening own a = (discharge_end rule valve opening own a).0

unfoldable pub discharge_flow : CavityRule → Valve → ℤ → NodeState → Arrival → ℤ
discharge_flow rule valve opening own a = (discharge_end rule valve opening own a).1
