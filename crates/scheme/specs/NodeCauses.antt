-- Why a node is Bad: something that it reads is, a characteristic that it reads is out of range, a
-- valve is over its limit, a vessel's volume is outside its gas table, or a head, flow or volume of
-- its own leaves its range. Its growth is no cause.
use Rattle.std.specs.Prelude.{◌≡◌, ◌<◌, ◌≤◌, ◌≤ℤ◌, ℕ, ℤ, pos, ◌+ℤ◌, ◌-ℤ◌, int_le, int_lt}
use Rattle.std.specs.Prelude.{unsigned_abs, ◌==◌, ◌&&◌, true, false, Option, Some, None}
use Rattle.std.specs.Prelude.{if◌then◌else◌, List, [], ◌∷◌, length}
use Rattle.std.specs.Int.{int_max}
use Rattle.std.specs.List.{list_all}
use Rattle.fixed_num.specs.Tables.{interp}
use Rattle.case_model.specs.declared.cases.Case.{Case}
use Rattle.case_model.specs.declared.cases.NodeKind.{NodeKind}
use Rattle.case_model.specs.declared.cases.NodeKind.TheVariants.{Reservoir, Junction, Discharge}
use Rattle.case_model.specs.declared.cases.NodeKind.TheVariants.{Inline, Pump, Tank, Vessel}
use Rattle.case_model.specs.declared.meshes.Arrival.{Arrival}
use Rattle.case_model.specs.declared.meshes.CavityRule.{CavityRule}
use Rattle.case_model.specs.declared.meshes.End.{End}
use Rattle.case_model.specs.declared.meshes.Mesh.{Mesh}
use Rattle.case_model.specs.declared.points.Point.{Point}
use Rattle.case_model.specs.declared.states.NodeState.{NodeState}
use Rattle.case_model.specs.declared.states.NodeState.TheVariants.{Good, Bad}
use Rattle.case_model.specs.Accepted.{IsAccepted}
use Rattle.case_model.specs.Division.{node_vapour_head}
use Rattle.case_model.specs.Mesh.{ends_of}
use Rattle.case_model.specs.Parts.{node_at, table_at}
use Rattle.case_model.specs.Places.{is_bad_state}
use Rattle.case_model.specs.Refusals.{is_over}
use Rattle.charline.specs.Characteristics.{flow_in, impedance_head}
use Rattle.charline.specs.Cavity.{cavity_volume}
use Rattle.junctions.specs.Levels.{is_flow, inflows}
use Rattle.junctions.specs.Junctions.{junction_head, junction_growth}
use Rattle.valves.specs.declared.discharges.Valve.{Valve}
use Rattle.valves.specs.Discharges.{liquid_flow, liquid_head, discharge_growth}
use Rattle.valves.specs.Orifices.{valve_flow}
use Rattle.pumps.specs.Pumps.{free_flow}
use Rattle.vessels.specs.Vessels.{tank_head, vessel_volume, has_volume}
use Rattle.scheme.specs.Arrivals.{arrivals_from}
use Rattle.scheme.specs.Causes.{IsGoodExactly}
use Rattle.scheme.specs.Ends.{side_one, side_two}
use Rattle.scheme.specs.NodeLaws.{sole, valve_of, node_law}
use Rattle.scheme.specs.Values.{value_at, rule_at}

-- the head and the volume of a node and the flows into it are in range
pub record IsLevel (h v : ℤ) (flows : List ℤ) : Type 0 where
  pub head : unsigned_abs h ≤ 100_000_000_000
  pub low : pos 0 ≤ℤ v
  pub volume : unsigned_abs v ≤ 1_000_000_000_000_000
  pub small : list_all is_flow flows ≡ true

-- a head and a volume, with the flows into the node at that head
abbrev pub AtLevel : ℤ × ℤ → List Arrival → Type 0
AtLevel l arrivals = IsLevel l.0 l.1 (inflows l.0 arrivals)

-- the head and the volume of a junction, whatever their size
abbrev pub junction_closed : ℤ → ℤ → ℤ → ℤ × ℤ
junction_closed hv head volume =
    if int_lt (pos 0) volume then (hv, volume) else (int_max head hv, pos 0)

abbrev pub junction_level : CavityRule → ℤ → ℤ → ℤ → List Arrival → ℤ × ℤ
junction_level rule demand volume growth arrivals =
    if (unsigned_abs volume == 0) && int_le rule.hv (junction_head demand arrivals)
    then (junction_head demand arrivals, pos 0)
    else junction_closed rule.hv (junction_head demand arrivals)
    (cavity_volume rule volume growth (junction_growth rule.hv demand arrivals))

-- the head, the volume and the flow into a discharge valve, whatever their size
abbrev pub IsEnd : ℤ × ℤ × ℤ → Type 0
IsEnd l = IsLevel l.0 l.1 (l.2 ∷ [])

abbrev pub discharge_closed : ℤ → ℤ → ℤ → ℤ → ℤ → ℤ × ℤ × ℤ
discharge_closed hv q head volume inflow =
    if int_lt (pos 0) volume then (hv, volume, inflow) else (int_max head hv, pos 0, q)

abbrev pub discharge_level : CavityRule → Valve → ℤ → ℤ → ℤ → ℤ → ℤ → Arrival → ℤ × ℤ × ℤ
discharge_level rule valve opening q head volume growth a =
    if (unsigned_abs volume == 0) && int_le rule.hv head
    then (head, pos 0, q)
    else discharge_closed rule.hv q head
    (cavity_volume rule volume growth (discharge_growth rule.hv valve opening a))
    (flow_in rule.hv a)

-- a flow through a node between two pipes, and the heads on both sides, are in range
pub record IsPassing (one two : Arrival) (q : ℤ) : Type 0 where
  pub flow : unsigned_abs q ≤ 1_000_000_000_000
  pub first : unsigned_abs (one.c -ℤ impedance_head one.b q) ≤ 100_000_000_000
  pub second : unsigned_abs (two.c +ℤ impedance_head two.b q) ≤ 100_000_000_000

-- what each kind of node needs to be Good
abbrev pub JunctionNeeds : CavityRule → ℤ → NodeState → List Arrival → Type 0
JunctionNeeds rule demand (Good h v g) arrivals =
    AtLevel (junction_level rule demand v g arrivals) arrivals
JunctionNeeds rule demand Bad arrivals = ⊥

abbrev pub DischargeNeeds : CavityRule → Valve → ℤ → NodeState → Arrival → Type 0
DischargeNeeds rule valve opening (Good h v g) a =
    (is_over valve.q0 valve.h0 a.b ≡ false)
    × IsEnd (discharge_level rule valve opening (liquid_flow valve opening a)
    (liquid_head a (liquid_flow valve opening a)) v g a)
DischargeNeeds rule valve opening Bad a = ⊥

abbrev pub InlineNeeds : ℤ → ℤ → ℤ → Arrival → Arrival → Type 0
InlineNeeds q0 h0 opening one two =
    (is_over q0 h0 (one.b +ℤ two.b) ≡ false)
    × IsPassing one two (valve_flow (one.b +ℤ two.b) q0 h0 opening (one.c -ℤ two.c))

abbrev pub PumpNeeds : List (ℤ × ℤ) → ℤ → Arrival → Arrival → Type 0
PumpNeeds curve speed one two =
    IsPassing one two (int_max (free_flow (one.c -ℤ two.c) (one.b +ℤ two.b) speed curve) (pos 0))

abbrev pub TankNeeds : ℤ → ℤ → NodeState → List Arrival → Type 0
TankNeeds dt area (Good h v g) arrivals = AtLevel (tank_head dt area h g arrivals, pos 0) arrivals
TankNeeds dt area Bad arrivals = ⊥

abbrev pub VesselNeeds : ℤ → List (ℤ × ℤ) → NodeState → List Arrival → Type 0
VesselNeeds dt gas (Good h v g) arrivals =
    (has_volume gas (vessel_volume dt v g) ≡ true)
    × AtLevel (interp gas (vessel_volume dt v g), vessel_volume dt v g) arrivals
VesselNeeds dt gas Bad arrivals = ⊥

abbrev pub KindNeeds : Case → ℤ → NodeKind → ℕ → NodeState → List End → List Arrival → Type 0
KindNeeds case hv (Reservoir head) step own ends arrivals =
    AtLevel (value_at case head step, pos 0) arrivals
KindNeeds case hv (Junction demand start) step own ends arrivals =
    JunctionNeeds (rule_at case hv) (value_at case demand step) own arrivals
KindNeeds case hv (Discharge q0 h0 outlet opening start) step own ends arrivals =
    DischargeNeeds (rule_at case hv) (valve_of q0 h0 outlet) (value_at case opening step) own
    (sole arrivals)
KindNeeds case hv (Inline q0 h0 opening start start2) step own ends arrivals =
    InlineNeeds q0 h0 (value_at case opening step) (side_one ends arrivals) (side_two ends arrivals)
KindNeeds case hv (Pump curve speed start start2) step own ends arrivals =
    PumpNeeds (table_at case curve).points (value_at case speed step) (side_one ends arrivals)
    (side_two ends arrivals)
KindNeeds case hv (Tank area start) step own ends arrivals = TankNeeds case.dt area own arrivals
KindNeeds case hv (Vessel gas volume) step own ends arrivals =
    VesselNeeds case.dt (table_at case gas).points own arrivals

-- and the characteristics along all its ends
abbrev pub GatheredNeeds : Case → ℤ → NodeKind → ℕ → NodeState → List End → Option (List Arrival)
    → Type 0
GatheredNeeds case hv kind step own ends (Some arrivals) =
    KindNeeds case hv kind step own ends arrivals
GatheredNeeds case hv kind step own ends None = ⊥

-- what node k needs at a step
abbrev pub NodeNeeds : Case → Mesh → ℕ → ℕ → NodeState → List Point → Type 0
NodeNeeds case mesh k step own near =
    GatheredNeeds case (node_vapour_head case k) (node_at case k).kind step own (ends_of mesh k)
    (arrivals_from case.friction mesh (ends_of mesh k) near)

-- the range rule of nodes: Good exactly where they have what they need
abbrev pub NodesHaveCauses : Type 0
NodesHaveCauses =
    (case : Case) (mesh : Mesh) → IsAccepted case mesh
    → (k step : ℕ) (own : NodeState) (near : List Point) →
    k < length mesh.ends
    → IsGoodExactly (is_bad_state (node_law case mesh k step own near).0)
    (NodeNeeds case mesh k step own near)
