-- The ends of a node are Bad exactly where its state is.
use Rattle.std.proofs.Common.{◌≡◌, ℕ, zero, suc, ◌≤◌, ◌==◌, ◌&&◌, int_le, int_lt, Bool, true, false, cond, ℤ, pos, ◌-ℤ◌, ◌+ℤ◌, unsigned_abs, Option, Some, None, List, [], ◌∷◌, length, refl, ap, subst, sym, ◌∙◌, arith}
use Rattle.std.specs.Prelude.{replicate}
use Rattle.std.specs.List.{AllByRecursion, list_all}
use Rattle.std.proofs.lemmas.Bool.{and_from, and_parts, leb-true}
use Rattle.std.proofs.lemmas.Int.{ints}
use Rattle.fixed_num.specs.Tables.{interp}
use Rattle.case_model.specs.declared.cases.Case.{Case}
use Rattle.case_model.specs.declared.cases.Friction.{Friction}
use Rattle.case_model.specs.declared.cases.NodeKind.{NodeKind}
use Rattle.case_model.specs.declared.cases.NodeKind.TheVariants.{Reservoir, Junction, Discharge, Inline, Pump, Tank, Vessel}
use Rattle.case_model.specs.declared.meshes.Arrival.{Arrival}
use Rattle.case_model.specs.declared.meshes.CavityRule.{CavityRule}
use Rattle.case_model.specs.declared.meshes.End.{End}
use Rattle.case_model.specs.declared.meshes.Mesh.{Mesh}
use Rattle.case_model.specs.declared.meshes.Through.{Through}
use Rattle.case_model.specs.declared.meshes.Through.TheVariants.{Good as Passes, Bad as Stuck}
use Rattle.case_model.specs.declared.points.Point.{Point}
use Rattle.case_model.specs.declared.states.NodeState.{NodeState}
use Rattle.case_model.specs.declared.states.NodeState.TheVariants.{Good as GoodState, Bad as BadState}
use Rattle.case_model.specs.Mesh.{ends_of}
use Rattle.case_model.specs.Parts.{node_at}
use Rattle.case_model.specs.Places.{is_bad, is_bad_state}
use Rattle.case_model.specs.Range.{IsState, state_of}
use Rattle.case_model.specs.RangeLaws.{point_of-good, state_of-good}
use Rattle.case_model.specs.Refusals.{is_over}
use Rattle.charline.specs.Characteristics.{flow_in, impedance_head}
use Rattle.charline.specs.Cavity.{cavity_volume}
use Rattle.std.specs.Int.{int_max}
use Rattle.junctions.specs.Levels.{is_flow, inflows, state_at, filled, flows_of}
use Rattle.junctions.specs.Junctions.{reservoir_state, reservoir_flows, junction_head, junction_growth, kept_or_closed as junction_kept, junction_after, junction_state, junction_flows}
use Rattle.valves.specs.declared.discharges.Valve.{Valve}
use Rattle.valves.specs.Discharges.{flowing as with_flow, end_at, liquid_flow, liquid_head, discharge_growth, kept_or_closed as discharge_kept, discharge_after, discharge_end, discharge_flow}
use Rattle.valves.specs.Devices.{is_head, through, inline_through}
use Rattle.pumps.specs.Pumps.{pump_through}
use Rattle.vessels.specs.Vessels.{tank_state, tank_flows, vessel_volume, has_volume, vessel_state, vessel_flows}
use Rattle.scheme.specs.Arrivals.{arrival_from, arrivals_from, joined}
use Rattle.scheme.specs.Causes.{EndsFollow, EndsHaveCauses}
use Rattle.scheme.specs.Computable.{Suits}
use Rattle.scheme.specs.Ends.{along, end_point, end_points, bad_points, through_points}
use Rattle.scheme.specs.LawRange.{law_of_kind-good}
use Rattle.scheme.specs.NodeLaws.{between, with_flows, sole, valve_of, law_of_kind, law_if, node_law}
use Rattle.scheme.specs.Values.{rule_at, value_at}
use Rattle.scheme.proofs.Divided.{computable}
use Rattle.scheme.proofs.Starting.{along_size}

-- ---- flows in range

abbrev AreFlows : List ℤ → Type 0
AreFlows flows = list_all is_flow flows ≡ true

none_flow : (n : ℕ) → AreFlows (replicate n (pos 0))
none_flow zero = refl
none_flow (suc n) = none_flow n

judged_flows : (t b : Bool) (h v g : ℤ) (arrivals : List Arrival) → list_all is_flow (inflows h arrivals) ≡ b
    → AreFlows (flows_of (cond b (cond t (GoodState h v g) BadState) BadState) arrivals)
unfolding flows_of
judged_flows true true h v g arrivals e = e
judged_flows false true h v g arrivals e = none_flow (length arrivals)
judged_flows t false h v g arrivals e = none_flow (length arrivals)

-- a state whose flows are in range
record HasFlows (s : NodeState) (arrivals : List Arrival) : Type 0 where
  flows : AreFlows (flows_of s arrivals)

at_flows : (h v g : ℤ) (arrivals : List Arrival) → HasFlows (state_at h v g arrivals) arrivals
unfolding state_at state_of
at_flows h v g arrivals = record { flows = judged_flows _ (list_all is_flow (inflows h arrivals)) h v g arrivals refl }

bad_flows : (arrivals : List Arrival) → HasFlows BadState arrivals
unfolding flows_of
bad_flows arrivals = record { flows = none_flow (length arrivals) }

chosen_flows : (b : Bool) (s t : NodeState) (arrivals : List Arrival) → HasFlows s arrivals → HasFlows t arrivals → HasFlows (cond b s t) arrivals
chosen_flows true s t arrivals h k = h
chosen_flows false s t arrivals h k = k

kept_flows : (hv head growth volume : ℤ) (arrivals : List Arrival) → HasFlows (junction_kept hv head growth volume arrivals) arrivals
kept_flows hv head growth volume arrivals =
    chosen_flows (int_lt (pos 0) volume) (state_at hv volume growth arrivals) (state_at (int_max head hv) (pos 0) (pos 0) arrivals) arrivals
    (at_flows hv volume growth arrivals) (at_flows (int_max head hv) (pos 0) (pos 0) arrivals)

after_flows : (rule : CavityRule) (demand head volume growth : ℤ) (arrivals : List Arrival) → HasFlows (junction_after rule demand head volume growth arrivals) arrivals
after_flows rule demand head volume growth arrivals =
    let now = junction_growth rule.hv demand arrivals in
    let after = cavity_volume rule volume growth now in
    chosen_flows ((unsigned_abs volume == 0) && int_le rule.hv head) (state_at head (pos 0) (pos 0) arrivals) (junction_kept rule.hv head now after arrivals) arrivals
    (at_flows head (pos 0) (pos 0) arrivals) (kept_flows rule.hv head now after arrivals)

junction-flows : (rule : CavityRule) (demand : ℤ) (own : NodeState) (arrivals : List Arrival) → HasFlows (junction_state rule demand own arrivals) arrivals
unfolding junction_state
junction-flows rule demand (GoodState h v g) arrivals = after_flows rule demand (junction_head demand arrivals) v g arrivals
junction-flows rule demand BadState arrivals = bad_flows arrivals

tank-flows : (dt area : ℤ) (own : NodeState) (arrivals : List Arrival) → HasFlows (tank_state dt area own arrivals) arrivals
unfolding tank_state
tank-flows dt area (GoodState h v g) arrivals = at_flows _ _ _ arrivals
tank-flows dt area BadState arrivals = bad_flows arrivals

vessel-flows : (dt : ℤ) (gas : List (ℤ × ℤ)) (own : NodeState) (arrivals : List Arrival) → HasFlows (vessel_state dt gas own arrivals) arrivals
unfolding vessel_state
vessel-flows dt gas (GoodState h v g) arrivals =
    let volume = vessel_volume dt v g in
    chosen_flows (has_volume gas volume) (filled (interp gas volume) volume arrivals) BadState arrivals (at_flows _ _ _ arrivals) (bad_flows arrivals)
vessel-flows dt gas BadState arrivals = bad_flows arrivals

length-inflows : (h : ℤ) (arrivals : List Arrival) → length (inflows h arrivals) ≡ length arrivals
length-inflows h [] = refl
length-inflows h (a ∷ arrivals) = ap suc (length-inflows h arrivals)

length-none : (n : ℕ) → length (replicate n (pos 0)) ≡ n
length-none zero = refl
length-none (suc n) = ap suc (length-none n)

length-flows : (s : NodeState) (arrivals : List Arrival) → length (flows_of s arrivals) ≡ length arrivals
unfolding flows_of
length-flows (GoodState h v g) arrivals = length-inflows h arrivals
length-flows BadState arrivals = length-none (length arrivals)

-- ---- the points of ends

end-good : (h v g q : ℤ) (e : End) → IsState (GoodState h v g) → is_flow q ≡ true → is_bad (end_point (GoodState h v g) e q) ≡ false
end-good h v g q e i f =
    let s = along_size e.at_last q in
    let m : unsigned_abs q ≤ 1000000000000 = leb-true _ _ f in
    ap is_bad (point_of-good h (along e q) (along e q) (pos 0) (record { head = i.head; up = omega (arith, s); down = omega (arith, s); low = omega (arith, ints); volume = omega arith }))

abbrev Follow : NodeState → List Point → Type 0
Follow s points = AllByRecursion (λ p. is_bad p ≡ is_bad_state s) points

follow_bad : (ends : List End) (flows : List ℤ) → Follow BadState (end_points BadState ends flows)
follow_bad [] flows = tt
follow_bad (e ∷ ends) [] = (refl, follow_bad ends [])
follow_bad (e ∷ ends) (q ∷ flows) = (refl, follow_bad ends flows)

follow_good : (h v g : ℤ) (ends : List End) (flows : List ℤ) → IsState (GoodState h v g) → AreFlows flows → length flows ≡ length ends → Follow (GoodState h v g) (end_points (GoodState h v g) ends flows)
follow_good h v g [] flows i f l = tt
follow_good h v g (e ∷ ends) [] i f l = absurd (omega arith)
follow_good h v g (e ∷ ends) (q ∷ flows) i f l =
    let p = and_parts _ _ f in (end-good h v g q e i p.0, follow_good h v g ends flows i p.1 (omega arith))

follow : (s : NodeState) (ends : List End) (flows : List ℤ) → IsState s → AreFlows flows → length flows ≡ length ends → EndsFollow (with_flows ends s flows)
follow (GoodState h v g) ends flows i f l = follow_good h v g ends flows i f l
follow BadState ends flows i f l = follow_bad ends flows

-- ---- a discharge valve

judged_end : (t b : Bool) (h v g q : ℤ) → is_flow q ≡ b → is_flow (with_flow (cond b (cond t (GoodState h v g) BadState) BadState) q).1 ≡ true
judged_end true true h v g q e = e
judged_end false true h v g q e = refl
judged_end t false h v g q e = refl

-- a state with a flow in range
record HasFlow (r : NodeState × ℤ) : Type 0 where
  flow : is_flow r.1 ≡ true

end_flow : (h v g q : ℤ) → HasFlow (end_at h v g q)
unfolding state_of
end_flow h v g q = record { flow = judged_end _ (is_flow q) h v g q refl }

chosen_end : (b : Bool) (x y : NodeState × ℤ) → HasFlow x → HasFlow y → HasFlow (cond b x y)
chosen_end true x y h k = h
chosen_end false x y h k = k

kept_end : (hv q head growth volume inflow : ℤ) → HasFlow (discharge_kept hv q head growth volume inflow)
kept_end hv q head growth volume inflow =
    chosen_end (int_lt (pos 0) volume) (end_at hv volume growth inflow) (end_at (int_max head hv) (pos 0) (pos 0) q)
    (end_flow hv volume growth inflow) (end_flow (int_max head hv) (pos 0) (pos 0) q)

after_end : (rule : CavityRule) (valve : Valve) (opening q head volume growth : ℤ) (a : Arrival) → HasFlow (discharge_after rule valve opening q head volume growth a)
after_end rule valve opening q head volume growth a =
    let now = discharge_growth rule.hv valve opening a in
    let after = cavity_volume rule volume growth now in
    chosen_end ((unsigned_abs volume == 0) && int_le rule.hv head) (end_at head (pos 0) (pos 0) q) (discharge_kept rule.hv q head now after (flow_in rule.hv a))
    (end_flow head (pos 0) (pos 0) q) (kept_end rule.hv q head now after (flow_in rule.hv a))

valve_end : (rule : CavityRule) (valve : Valve) (opening : ℤ) (own : NodeState) (a : Arrival) → HasFlow (discharge_end rule valve opening own a)
unfolding discharge_end
valve_end rule valve opening (GoodState h v g) a =
    let q = liquid_flow valve opening a in
    chosen_end (is_over valve.q0 valve.h0 a.b) (BadState, pos 0) (discharge_after rule valve opening q (liquid_head a q) v g a)
    (record { flow = refl }) (after_end rule valve opening q (liquid_head a q) v g a)
valve_end rule valve opening BadState a = record { flow = refl }

valve_flow-in : (rule : CavityRule) (valve : Valve) (opening : ℤ) (own : NodeState) (a : Arrival) → is_flow (discharge_flow rule valve opening own a) ≡ true
unfolding discharge_flow
valve_flow-in rule valve opening own a = (valve_end rule valve opening own a).flow

-- ---- a device between two pipes

either : (at_last : Bool) (h1 h2 : ℤ) → unsigned_abs h1 ≤ 100000000000 → unsigned_abs h2 ≤ 100000000000 → unsigned_abs (cond at_last h1 h2) ≤ 100000000000
either true h1 h2 h k = h
either false h1 h2 h k = k

passing : (q h1 h2 : ℤ) (ends : List End) → unsigned_abs q ≤ 1000000000000 → unsigned_abs h1 ≤ 100000000000 → unsigned_abs h2 ≤ 100000000000
    → AllByRecursion (λ p. is_bad p ≡ false) (through_points (Passes q h1 h2) ends)
passing q h1 h2 [] f h k = tt
passing q h1 h2 (e ∷ ends) f h k = (
  ap is_bad (point_of-good (cond e.at_last h1 h2) q q (pos 0) (record { head = either e.at_last h1 h2 h k; up = f; down = f; low = omega (arith, ints); volume = omega arith })),
  passing q h1 h2 ends f h k,
)

stuck : (ends : List End) → Follow BadState (through_points Stuck ends)
stuck [] = tt
stuck (e ∷ ends) = (refl, stuck ends)

judged_through : (b : Bool) (q h1 h2 : ℤ) (ends : List End) → (is_flow q && is_head h1 && is_head h2) ≡ b → EndsFollow (between ends (cond b (Passes q h1 h2) Stuck))
judged_through true q h1 h2 ends e =
    let x = and_parts _ _ e in
    let y = and_parts _ _ x.0 in
    let h : unsigned_abs h1 ≤ 100000000000 = leb-true _ _ y.1 in
    let s : is_bad_state (state_of h1 (pos 0) (pos 0)) ≡ false =
    ap is_bad_state (state_of-good h1 (pos 0) (pos 0) (record { head = h; low = omega (arith, ints); volume = omega arith; growth = omega arith })) in
    subst (λ (b : Bool). AllByRecursion (λ p. is_bad p ≡ b) (through_points (Passes q h1 h2) ends)) (sym s) (passing q h1 h2 ends (leb-true _ _ y.0) h (leb-true _ _ x.1))
judged_through false q h1 h2 ends e = stuck ends

through-follow : (one two : Arrival) (q : ℤ) (ends : List End) → EndsFollow (between ends (through one two q))
unfolding through
through-follow one two q ends = judged_through (is_flow q && is_head (one.c -ℤ impedance_head one.b q) && is_head (two.c +ℤ impedance_head two.b q)) q (one.c -ℤ impedance_head one.b q) (two.c +ℤ impedance_head two.b q) ends refl

chosen_through : (b : Bool) (t : Through) (ends : List End) → EndsFollow (between ends t) → EndsFollow (between ends (cond b Stuck t))
chosen_through true t ends h = stuck ends
chosen_through false t ends h = h

inline-follow : (q0 h0 opening : ℤ) (one two : Arrival) (ends : List End) → EndsFollow (between ends (inline_through q0 h0 opening one two))
unfolding inline_through
inline-follow q0 h0 opening one two ends = chosen_through (is_over q0 h0 (one.b +ℤ two.b)) _ ends (through-follow one two _ ends)

pump-follow : (curve : List (ℤ × ℤ)) (speed : ℤ) (one two : Arrival) (ends : List End) → EndsFollow (between ends (pump_through curve speed one two))
unfolding pump_through
pump-follow curve speed one two ends = through-follow one two _ ends

-- ---- each kind of node

sole_end : (q : ℤ) → is_flow q ≡ true → AreFlows (q ∷ [])
sole_end q h = and_from _ _ h refl

kind-follow : (case : Case) (hv : ℤ) (kind : NodeKind) (step : ℕ) (own : NodeState) (ends : List End) (arrivals : List Arrival) → Suits kind ends → length arrivals ≡ length ends
    → IsState (law_of_kind case hv kind step own ends arrivals).0 → EndsFollow (law_of_kind case hv kind step own ends arrivals)
unfolding law_of_kind reservoir_flows reservoir_state junction_flows tank_flows vessel_flows
kind-follow case hv (Reservoir head) step own ends arrivals s l i = follow _ ends _ i (at_flows _ _ _ arrivals).flows (length-flows _ arrivals ∙ l)
kind-follow case hv (Junction demand start) step own ends arrivals s l i = follow _ ends _ i (junction-flows _ _ own arrivals).flows (length-flows _ arrivals ∙ l)
kind-follow case hv (Discharge q0 h0 outlet opening start) step own ends arrivals s l i =
    let rule = rule_at case hv in
    let valve = valve_of q0 h0 outlet in
    let tau = value_at case opening step in
    let a = sole arrivals in
    follow _ ends _ i (sole_end (discharge_flow rule valve tau own a) (valve_flow-in rule valve tau own a)) (sym s)
kind-follow case hv (Inline q0 h0 opening start start2) step own ends arrivals s l i = inline-follow _ _ _ _ _ ends
kind-follow case hv (Pump curve speed start start2) step own ends arrivals s l i = pump-follow _ _ _ _ ends
kind-follow case hv (Tank area start) step own ends arrivals s l i = follow _ ends _ i (tank-flows _ _ own arrivals).flows (length-flows _ arrivals ∙ l)
kind-follow case hv (Vessel gas volume) step own ends arrivals s l i = follow _ ends _ i (vessel-flows _ _ own arrivals).flows (length-flows _ arrivals ∙ l)

bad-follow : (ends : List End) → Follow BadState (bad_points ends)
bad-follow [] = tt
bad-follow (e ∷ ends) = (refl, bad-follow ends)

if-follow : (case : Case) (hv : ℤ) (kind : NodeKind) (step : ℕ) (own : NodeState) (ends : List End) (o : Option (List Arrival)) → Suits kind ends
    → ((arrivals : List Arrival) → o ≡ Some arrivals → length arrivals ≡ length ends) → EndsFollow (law_if case hv kind step own ends o)
if-follow case hv kind step own ends (Some arrivals) s l =
    kind-follow case hv kind step own ends arrivals s (l arrivals refl) (law_of_kind-good case hv kind step own ends arrivals).0
if-follow case hv kind step own ends None s l = bad-follow ends

joined_length : (o : Option Arrival) (os : Option (List Arrival)) (arrivals : List Arrival) (n : ℕ) → ((rest : List Arrival) → os ≡ Some rest → length rest ≡ n) → joined o os ≡ Some arrivals → length arrivals ≡ suc n
joined_length (Some a) (Some rest) arrivals n r h =
    let e : a ∷ rest ≡ arrivals = cc in subst (λ (all : List Arrival). length all ≡ suc n) e (ap suc (r rest refl))
joined_length (Some a) None arrivals n r h = cc
joined_length None os arrivals n r h = cc

pub arrivals_length : (friction : Friction) (mesh : Mesh) (ends : List End) (near : List Point) (arrivals : List Arrival) → arrivals_from friction mesh ends near ≡ Some arrivals → length arrivals ≡ length ends
arrivals_length friction mesh [] near arrivals h = let e : [] ≡ arrivals = cc in subst (λ (all : List Arrival). length all ≡ 0) e refl
arrivals_length friction mesh (x ∷ ends) [] arrivals h = cc
arrivals_length friction mesh (x ∷ ends) (y ∷ near) arrivals h =
    joined_length (arrival_from friction mesh x y) (arrivals_from friction mesh ends near) arrivals (length ends) (λ rest e. arrivals_length friction mesh ends near rest e) h

pub ends : EndsHaveCauses
unfolding node_law
ends case mesh accepted k step own near h =
    let fit = computable case mesh accepted in
    if-follow case _ (node_at case k).kind step own (ends_of mesh k) (arrivals_from case.friction mesh (ends_of mesh k) near) (fit.ends k h).suits
    (λ arrivals e. arrivals_length case.friction mesh (ends_of mesh k) near arrivals e)
