-- The law of a node, by its kind: its new state and the points of its pipe ends. After Wylie and
-- Streeter, Fluid Transients in Systems: boundary conditions, column separation.
use Rattle.std.specs.Prelude.{ℕ, ℤ, Option, Some, None, List, [], ◌∷◌, slice_index_or}
use Rattle.case_model.specs.declared.cases.Case.{Case}
use Rattle.case_model.specs.declared.cases.NodeKind.{NodeKind}
use Rattle.case_model.specs.declared.cases.NodeKind.TheVariants.{Reservoir, Junction, Discharge}
use Rattle.case_model.specs.declared.cases.NodeKind.TheVariants.{Inline, Pump, Tank, Vessel}
use Rattle.case_model.specs.declared.points.Point.{Point}
use Rattle.case_model.specs.declared.states.NodeState.{NodeState}
use Rattle.case_model.specs.declared.states.NodeState.TheVariants.{Bad as BadState}
use Rattle.case_model.specs.declared.meshes.Arrival.{Arrival}
use Rattle.case_model.specs.declared.meshes.End.{End}
use Rattle.case_model.specs.declared.meshes.Mesh.{Mesh}
use Rattle.case_model.specs.declared.meshes.Through.{Through}
use Rattle.case_model.specs.Division.{node_vapour_head}
use Rattle.case_model.specs.Mesh.{ends_of}
use Rattle.case_model.specs.Parts.{node_at, table_at}
use Rattle.junctions.specs.Junctions.{reservoir_state, reservoir_flows, junction_state}
use Rattle.junctions.specs.Junctions.{junction_flows}
use Rattle.valves.specs.declared.discharges.Valve.{Valve}
use Rattle.valves.specs.Discharges.{discharge_state, discharge_flow}
use Rattle.valves.specs.Devices.{inline_through}
use Rattle.pumps.specs.Pumps.{pump_through}
use Rattle.vessels.specs.Vessels.{tank_state, tank_flows, vessel_state, vessel_flows}
use Rattle.scheme.specs.Values.{value_at, rule_at}
use Rattle.scheme.specs.Arrivals.{arrivals_from}
use Rattle.scheme.specs.Ends.{end_points, bad_points, no_arrival, side_one, side_two, through_state}
use Rattle.scheme.specs.Ends.{through_points}

-- a node with one head: its state, and its ends by the flows into it
abbrev pub with_flows : List End → NodeState → List ℤ → NodeState × List Point
with_flows ends state flows = (state, end_points state ends flows)

-- a node between two pipes
abbrev pub between : List End → Through → NodeState × List Point
between ends through = (through_state through, through_points through ends)

-- the numbers of a valve with the outlet at a head; in a line it has none
abbrev pub valve_of : ℤ → ℤ → ℤ → Valve
valve_of q0 h0 outlet = record { q0 = q0; h0 = h0; outlet = outlet }

-- the only arrival
abbrev pub sole : List Arrival → Arrival
sole arrivals = slice_index_or arrivals 0 no_arrival

-- what each kind of node does at a step, of its vapour head, its old state and what arrives
unfoldable pub law_of_kind : Case → ℤ → NodeKind → ℕ → NodeState → List End → List Arrival
    → NodeState × List Point
law_of_kind case hv (Reservoir head) step own ends arrivals =
    with_flows ends (reservoir_state (value_at case head step) arrivals)
    (reservoir_flows (value_at case head step) arrivals)
law_of_kind case hv (Junction demand start) step own ends arrivals =
    with_flows ends (junction_state (rule_at case hv) (value_at case demand step) own arrivals)
    (junction_flows (rule_at case hv) (value_at case demand step) own arrivals)
law_of_kind case hv (Discharge q0 h0 outlet opening start) step own ends arrivals =
    with_flows ends
    (discharge_state (rule_at case hv) (valve_of q0 h0 outlet) (value_at case opening step) own
    (sole arrivals))
    (discharge_flow (rule_at case hv) (valve_of q0 h0 outlet) (value_at case opening step) own
    (sole arrivals) ∷ [])
law_of_kind case hv (Inline q0 h0 opening start start2) step own ends arrivals =
    between ends (inline_through q0 h0 (value_at case opening step) (side_one ends arrivals)
    (side_two ends arrivals))
law_of_kind case hv (Pump curve speed start start2) step own ends arrivals =
    between ends (pump_through (table_at case curve).points (value_at case speed step)
    (side_one ends arrivals) (side_two ends arrivals))
law_of_kind case hv (Tank area start) step own ends arrivals =
    with_flows ends (tank_state case.dt area own arrivals) (tank_flows case.dt area own arrivals)
law_of_kind case hv (Vessel gas volume) step own ends arrivals =
    with_flows ends (vessel_state case.dt (table_at case gas).points own arrivals)
    (vessel_flows case.dt (table_at case gas).points own arrivals)

-- the same, Bad where a characteristic that it reads is Bad or out of range
abbrev pub law_if : Case → ℤ → NodeKind → ℕ → NodeState → List End → Option (List Arrival)
    → NodeState × List Point
law_if case hv kind step own ends (Some arrivals) = law_of_kind case hv kind step own ends arrivals
law_if case hv kind step own ends None = (BadState, bad_points ends)

-- the law of node k at a step, from its old state and the points beside it
unfoldable pub node_law : Case → Mesh → ℕ → ℕ → NodeState → List Point → NodeState × List Point
node_law case mesh k step own near =
    law_if case (node_vapour_head case k) (node_at case k).kind step own (ends_of mesh k)
    (arrivals_from case.friction mesh (ends_of mesh k) near)
