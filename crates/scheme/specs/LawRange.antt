-- All that the law of a case makes is in range.
use Rattle.std.specs.Prelude.{ℕ, Bool, true, false, cond, ◌&&◌, ◌==◌, ℤ, pos, int_le, int_lt}
use Rattle.std.specs.Prelude.{unsigned_abs, Option, Some, None, List, [], ◌∷◌}
use Rattle.std.specs.List.{AllByRecursion, list_all}
use Rattle.std.proofs.lemmas.List.Elements.{All-from_recursion}
use Rattle.case_model.specs.declared.cases.Case.{Case}
use Rattle.case_model.specs.declared.cases.Friction.{Friction}
use Rattle.case_model.specs.declared.cases.NodeKind.{NodeKind}
use Rattle.case_model.specs.declared.cases.NodeKind.TheVariants.{Reservoir, Junction, Discharge}
use Rattle.case_model.specs.declared.cases.NodeKind.TheVariants.{Inline, Pump, Tank, Vessel}
use Rattle.case_model.specs.declared.meshes.Arrival.{Arrival}
use Rattle.case_model.specs.declared.meshes.CavityRule.{CavityRule}
use Rattle.case_model.specs.declared.meshes.End.{End}
use Rattle.case_model.specs.declared.meshes.Mesh.{Mesh}
use Rattle.case_model.specs.declared.meshes.Through.{Through}
use Rattle.case_model.specs.declared.meshes.Through.TheVariants.{Good as Passes, Bad as Stuck}
use Rattle.case_model.specs.declared.points.Point.{Point}
use Rattle.case_model.specs.declared.points.Point.TheVariants.{Good, Bad}
use Rattle.case_model.specs.declared.states.NodeState.{NodeState}
use Rattle.case_model.specs.declared.states.NodeState.TheVariants.{Good as GoodState}
use Rattle.case_model.specs.declared.states.NodeState.TheVariants.{Bad as BadState}
use Rattle.case_model.specs.Meaning.{IsMeaning}
use Rattle.case_model.specs.Mesh.{ends_of}
use Rattle.case_model.specs.Range.{IsPoint, IsState, state_of}
use Rattle.case_model.specs.Refusals.{is_over}
use Rattle.case_model.specs.RangeLaws.{point_of-in_range, state_of-in_range}
use Rattle.charline.specs.Characteristics.{arrive_plus, arrive_minus}
use Rattle.charline.specs.Cavity.{cavity_volume}
use Rattle.charline.specs.Characteristics.{flow_in}
use Rattle.std.specs.Int.{int_max}
use Rattle.charline.specs.Interior.{meeting_head, flow_before, flow_after, growth, kept_or_closed}
use Rattle.charline.specs.Interior.{meet, meet_if, inner_point}
use Rattle.junctions.specs.Levels.{is_flow, inflows, state_at}
use Rattle.junctions.specs.Junctions.{reservoir_state, junction_head, junction_growth}
use Rattle.junctions.specs.Junctions.{kept_or_closed as junction_kept, junction_after}
use Rattle.junctions.specs.Junctions.{junction_state}
use Rattle.valves.specs.declared.discharges.Valve.{Valve}
use Rattle.valves.specs.Discharges.{end_at, flowing as with_flow, kept_or_closed as discharge_kept}
use Rattle.valves.specs.Discharges.{discharge_after, discharge_growth, liquid_flow, liquid_head}
use Rattle.valves.specs.Discharges.{discharge_end, discharge_state}
use Rattle.valves.specs.Devices.{is_flow as is_valve_flow}
use Rattle.vessels.specs.Vessels.{tank_state, vessel_volume, has_volume, vessel_state}
use Rattle.scheme.specs.Arrivals.{arrivals_from}
use Rattle.scheme.specs.Ends.{end_point, end_points, bad_points, through_state, through_point}
use Rattle.scheme.specs.Ends.{through_points}
use Rattle.scheme.specs.Laws.{inner_law, meaning_of}
use Rattle.scheme.specs.NodeLaws.{between, with_flows, law_of_kind, law_if, node_law}
use Rattle.scheme.specs.Starts.{start_point, start_node}

-- ---- the interior law

choose : (b : Bool) (p q : Point) → IsPoint p → IsPoint q → IsPoint (cond b p q)
choose true p q h k = h
choose false p q h k = k

kept-good : (rule : CavityRule) (plus minus : Arrival) (volume : ℤ)
    → IsPoint (kept_or_closed rule plus minus volume)
kept-good rule plus minus volume =
    choose (int_lt (pos 0) volume) _ _ (point_of-in_range _ _ _ _) (point_of-in_range _ _ _ _)

meet-good : (rule : CavityRule) (plus minus : Arrival) (volume before : ℤ)
    → IsPoint (meet rule plus minus volume before)
unfolding meet
meet-good rule plus minus volume before =
    choose ((unsigned_abs volume == 0) && int_le rule.hv (meeting_head plus minus)) _ _
    (point_of-in_range _ _ _ _) (kept-good rule plus minus
    (cavity_volume rule volume before
    (growth (flow_before rule.hv plus) (flow_after rule.hv minus))))

meet_if-good : (rule : CavityRule) (plus minus : Option Arrival) (volume before : ℤ)
    → IsPoint (meet_if rule plus minus volume before)
meet_if-good rule (Some plus) (Some minus) volume before = meet-good rule plus minus volume before
meet_if-good rule (Some plus) None volume before = tt
meet_if-good rule None minus volume before = tt

inner_point-good : (friction : Friction) (rule : CavityRule) (b r : ℤ) (left own right : Point)
    → IsPoint (inner_point friction rule b r left own right)
unfolding inner_point
inner_point-good friction rule b r left (Good h qu qd v) right =
    meet_if-good rule (arrive_plus friction b r left) (arrive_minus friction b r right) v
    (growth qu qd)
inner_point-good friction rule b r left Bad right = tt

pub inner_law-good : (case : Case) (mesh : Mesh) (p i : ℕ) (left own right : Point)
    → IsPoint (inner_law case mesh p i left own right)
unfolding inner_law
inner_law-good case mesh p i left own right = inner_point-good _ _ _ _ left own right

-- ---- states of nodes

choose_state : (b : Bool) (p q : NodeState) → IsState p → IsState q → IsState (cond b p q)
choose_state true p q h k = h
choose_state false p q h k = k

state_at-good : (h v g : ℤ) (arrivals : List Arrival) → IsState (state_at h v g arrivals)
unfolding state_at
state_at-good h v g arrivals =
    choose_state (list_all is_flow (inflows h arrivals)) _ _ (state_of-in_range h v g) tt

reservoir-good : (head : ℤ) (arrivals : List Arrival) → IsState (reservoir_state head arrivals)
unfolding reservoir_state
reservoir-good head arrivals = state_at-good _ _ _ arrivals

kept-junction-good : (hv head growth volume : ℤ) (arrivals : List Arrival)
    → IsState (junction_kept hv head growth volume arrivals)
kept-junction-good hv head growth volume arrivals =
    choose_state (int_lt (pos 0) volume) _ _ (state_at-good _ _ _ arrivals)
    (state_at-good _ _ _ arrivals)

junction_after-good : (rule : CavityRule) (demand head volume growth : ℤ) (arrivals : List Arrival)
    → IsState (junction_after rule demand head volume growth arrivals)
junction_after-good rule demand head volume growth arrivals =
    choose_state ((unsigned_abs volume == 0) && int_le rule.hv head) _ _
    (state_at-good _ _ _ arrivals)
    (kept-junction-good rule.hv head (junction_growth rule.hv demand arrivals)
    (cavity_volume rule volume growth (junction_growth rule.hv demand arrivals)) arrivals)

junction-good : (rule : CavityRule) (demand : ℤ) (own : NodeState) (arrivals : List Arrival)
    → IsState (junction_state rule demand own arrivals)
unfolding junction_state
junction-good rule demand (GoodState h v g) arrivals =
    junction_after-good rule demand (junction_head demand arrivals) v g arrivals
junction-good rule demand BadState arrivals = tt

with_flow-good : (state : NodeState) (q : ℤ) → IsState state → IsState (with_flow state q).0
with_flow-good (GoodState h v g) q i = i
with_flow-good BadState q i = tt

end_at-good : (h v g q : ℤ) → IsState (end_at h v g q).0
end_at-good h v g q =
    with_flow-good (cond (is_valve_flow q) (state_of h v g) BadState) q
    (choose_state (is_valve_flow q) _ _ (state_of-in_range h v g) tt)

choose_first : (b : Bool) (p q : NodeState × ℤ) → IsState p.0 → IsState q.0 → IsState (cond b p q).0
choose_first true p q h k = h
choose_first false p q h k = k

kept-discharge-good : (hv q head growth volume inflow : ℤ)
    → IsState (discharge_kept hv q head growth volume inflow).0
kept-discharge-good hv q head growth volume inflow =
    choose_first (int_lt (pos 0) volume) (end_at hv volume growth inflow)
    (end_at (int_max head hv) (pos 0) (pos 0) q) (end_at-good hv volume growth inflow)
    (end_at-good (int_max head hv) (pos 0) (pos 0) q)

discharge_after-good : (rule : CavityRule) (valve : Valve) (opening q head volume growth : ℤ)
    (a : Arrival) → IsState (discharge_after rule valve opening q head volume growth a).0
discharge_after-good rule valve opening q head volume growth a =
    let now = discharge_growth rule.hv valve opening a in
    let after = cavity_volume rule volume growth now in
    choose_first ((unsigned_abs volume == 0) && int_le rule.hv head) (end_at head (pos 0) (pos 0) q)
    (discharge_kept rule.hv q head now after (flow_in rule.hv a))
    (end_at-good head (pos 0) (pos 0) q)
    (kept-discharge-good rule.hv q head now after (flow_in rule.hv a))

discharge_end-good : (rule : CavityRule) (valve : Valve) (opening : ℤ) (own : NodeState)
    (a : Arrival) → IsState (discharge_end rule valve opening own a).0
unfolding discharge_end
discharge_end-good rule valve opening (GoodState h v g) a =
    choose_first (is_over valve.q0 valve.h0 a.b) (BadState, pos 0) _ tt
    (discharge_after-good rule valve opening (liquid_flow valve opening a)
    (liquid_head a (liquid_flow valve opening a)) v g a)
discharge_end-good rule valve opening BadState a = tt

discharge-good : (rule : CavityRule) (valve : Valve) (opening : ℤ) (own : NodeState) (a : Arrival)
    → IsState (discharge_state rule valve opening own a)
unfolding discharge_state
discharge-good rule valve opening own a = discharge_end-good rule valve opening own a

tank-good : (dt area : ℤ) (own : NodeState) (arrivals : List Arrival)
    → IsState (tank_state dt area own arrivals)
unfolding tank_state
tank-good dt area (GoodState h v g) arrivals = state_at-good _ _ _ arrivals
tank-good dt area BadState arrivals = tt

vessel-good : (dt : ℤ) (gas : List (ℤ × ℤ)) (own : NodeState) (arrivals : List Arrival)
    → IsState (vessel_state dt gas own arrivals)
unfolding vessel_state
vessel-good dt gas (GoodState h v g) arrivals =
    choose_state (has_volume gas (vessel_volume dt v g)) _ _ (state_at-good _ _ _ arrivals) tt
vessel-good dt gas BadState arrivals = tt

through-good : (t : Through) → IsState (through_state t)
through-good (Passes q h1 h2) = state_of-in_range _ _ _
through-good Stuck = tt

-- ---- the points of their ends

end_point-good : (state : NodeState) (e : End) (q : ℤ) → IsPoint (end_point state e q)
end_point-good (GoodState h v g) e q = point_of-in_range _ _ _ _
end_point-good BadState e q = tt

end_points-good : (state : NodeState) (ends : List End) (flows : List ℤ)
    → AllByRecursion IsPoint (end_points state ends flows)
end_points-good state [] flows = tt
end_points-good state (e ∷ ends) [] = (tt, end_points-good state ends [])
end_points-good state (e ∷ ends) (q ∷ flows) =
    (end_point-good state e q, end_points-good state ends flows)

bad_points-good : (ends : List End) → AllByRecursion IsPoint (bad_points ends)
bad_points-good [] = tt
bad_points-good (e ∷ ends) = (tt, bad_points-good ends)

through_point-good : (t : Through) (e : End) → IsPoint (through_point t e)
through_point-good (Passes q h1 h2) e = point_of-in_range _ _ _ _
through_point-good Stuck e = tt

through_points-good : (t : Through) (ends : List End)
    → AllByRecursion IsPoint (through_points t ends)
through_points-good t [] = tt
through_points-good t (e ∷ ends) = (through_point-good t e, through_points-good t ends)

-- ---- the law of a node

abbrev AreGood : NodeState × List Point → Type 0
AreGood r = IsState r.0 × AllByRecursion IsPoint r.1

with_flows-good : (ends : List End) (state : NodeState) (flows : List ℤ) → IsState state
    → AreGood (with_flows ends state flows)
with_flows-good ends state flows h = (h, end_points-good state ends flows)

between-good : (ends : List End) (t : Through) → AreGood (between ends t)
between-good ends t = (through-good t, through_points-good t ends)

pub law_of_kind-good : (case : Case) (hv : ℤ) (kind : NodeKind) (step : ℕ) (own : NodeState)
    (ends : List End) (arrivals : List Arrival)
    → AreGood (law_of_kind case hv kind step own ends arrivals)
unfolding law_of_kind
law_of_kind-good case hv (Reservoir head) step own ends arrivals =
    with_flows-good ends _ _ (reservoir-good _ arrivals)
law_of_kind-good case hv (Junction demand start) step own ends arrivals =
    with_flows-good ends _ _ (junction-good _ _ own arrivals)
law_of_kind-good case hv (Discharge q0 h0 outlet opening start) step own ends arrivals =
    with_flows-good ends _ _ (discharge-good _ _ _ own _)
law_of_kind-good case hv (Inline q0 h0 opening start start2) step own ends arrivals =
    between-good ends _
law_of_kind-good case hv (Pump curve speed start start2) step own ends arrivals =
    between-good ends _
law_of_kind-good case hv (Tank area start) step own ends arrivals =
    with_flows-good ends _ _ (tank-good _ _ own arrivals)
law_of_kind-good case hv (Vessel gas volume) step own ends arrivals =
    with_flows-good ends _ _ (vessel-good _ _ own arrivals)

law_if-good : (case : Case) (hv : ℤ) (kind : NodeKind) (step : ℕ) (own : NodeState)
    (ends : List End) (arrivals : Option (List Arrival))
    → AreGood (law_if case hv kind step own ends arrivals)
law_if-good case hv kind step own ends (Some arrivals) =
    law_of_kind-good case hv kind step own ends arrivals
law_if-good case hv kind step own ends None = (tt, bad_points-good ends)

node_law-good : (case : Case) (mesh : Mesh) (k step : ℕ) (own : NodeState) (near : List Point)
    → AreGood (node_law case mesh k step own near)
unfolding node_law
node_law-good case mesh k step own near =
    law_if-good case _ _ step own (ends_of mesh k)
    (arrivals_from case.friction mesh (ends_of mesh k) near)

start_point-good : (case : Case) (mesh : Mesh) (p i : ℕ) → IsPoint (start_point case mesh p i)
unfolding start_point
start_point-good case mesh p i = point_of-in_range _ _ _ _

start_node-good : (case : Case) (mesh : Mesh) (k : ℕ) → IsState (start_node case mesh k)
unfolding start_node
start_node-good case mesh k = state_of-in_range _ _ _

pub meaning_of-good : (case : Case) (mesh : Mesh) → IsMeaning (meaning_of case mesh)
unfolding meaning_of
meaning_of-good case mesh = record {
  inner = λ p i left own right _ _ _. inner_law-good case mesh p i left own right;
  node = λ k s own near _ _. (node_law-good case mesh k s own near).0;
  ends = λ k s own near _ _. All-from_recursion IsPoint _ (node_law-good case mesh k s own near).1;
  start_point = start_point-good case mesh;
  start_node = start_node-good case mesh;
}
