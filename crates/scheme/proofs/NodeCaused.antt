-- The range rule of nodes: a state is Good exactly where the head, the volume and the flows of the law are in range.
use Rattle.std.proofs.Common.{◌≡◌, ℕ, ◌*◌, ◌≤◌, ◌==◌, ◌&&◌, int_le, int_lt, Bool, true, false, cond, ℤ, pos, ◌+ℤ◌, ◌-ℤ◌, ◌*ℤ◌, ◌≤ℤ◌, ◌<ℤ◌, neg_ℤ, unsigned_abs, Option, Some, None, List, [], ◌∷◌, length, refl, ap, subst, sym, ◌∙◌, arith}
use Rattle.std.specs.List.{list_all}
use Rattle.std.specs.Int.{int_max}
use Rattle.std.proofs.lemmas.Bool.{and_from, and_parts, leb-true, le-leb}
use Rattle.std.proofs.Math.Bool.{and-true}
use Rattle.std.proofs.lemmas.Int.{ints, unsigned_abs-mul}
use Rattle.std.proofs.lemmas.Nat.{mul-le}
use Rattle.std.proofs.lemmas.List.Elements.{recursion_from_All}
use Rattle.fixed_num.specs.Rounding.{rnd}
use Rattle.fixed_num.specs.Roots.{root}
use Rattle.fixed_num.specs.Tables.{interp, IsBetween}
use Rattle.fixed_num.proofs.Nearest.{size}
use Rattle.fixed_num.proofs.RootLaws.{root-is, no_less}
use Rattle.case_model.specs.declared.cases.Case.{Case}
use Rattle.case_model.specs.declared.cases.NodeKind.{NodeKind}
use Rattle.case_model.specs.declared.cases.NodeKind.TheVariants.{Reservoir, Junction, Discharge, Inline, Pump, Tank, Vessel}
use Rattle.case_model.specs.declared.cases.Value.{Value}
use Rattle.case_model.specs.declared.cases.Value.TheVariants.{Fixed, ByTable}
use Rattle.case_model.specs.declared.meshes.Arrival.{Arrival}
use Rattle.case_model.specs.declared.meshes.CavityRule.{CavityRule}
use Rattle.case_model.specs.declared.meshes.End.{End}
use Rattle.case_model.specs.declared.meshes.Through.{Through}
use Rattle.case_model.specs.declared.meshes.Through.TheVariants.{Good as Passes, Bad as Stuck}
use Rattle.case_model.specs.declared.states.NodeState.{NodeState}
use Rattle.case_model.specs.declared.states.NodeState.TheVariants.{Good as GoodState, Bad as BadState}
use Rattle.case_model.specs.Division.{node_vapour_head}
use Rattle.case_model.specs.Limits.{IsFlow, IsHead, IsKind, IsRead, IsValve, IsWithin}
use Rattle.case_model.specs.Mesh.{ends_of}
use Rattle.case_model.specs.Parts.{node_at, no_node, table_at}
use Rattle.case_model.specs.Places.{is_bad_state}
use Rattle.case_model.specs.Range.{state_of}
use Rattle.case_model.specs.RangeLaws.{state_of-good, state_of-bad}
use Rattle.case_model.specs.Refusals.{is_over}
use Rattle.charline.specs.Characteristics.{flow_in, impedance_head}
use Rattle.charline.specs.Cavity.{cavity_volume}
use Rattle.junctions.specs.Sums.{inflow}
use Rattle.junctions.specs.Levels.{is_flow, inflows, state_at, filled}
use Rattle.junctions.specs.Junctions.{reservoir_state, junction_head, junction_growth, kept_or_closed as junction_kept, junction_state}
use Rattle.valves.specs.declared.discharges.Valve.{Valve}
use Rattle.valves.specs.Discharges.{flowing as with_flow, end_at, liquid_flow, liquid_head, outflow, discharge_growth, kept_or_closed as discharge_kept, discharge_after, discharge_end, discharge_state}
use Rattle.valves.specs.Devices.{is_head, through, inline_through}
use Rattle.valves.specs.Orifices.{valve_flow, open_flow, square_flow, orifice_flow}
use Rattle.valves.proofs.Quotients.{open_below, share_below}
use Rattle.pumps.specs.Pumps.{free_flow, pump_through}
use Rattle.vessels.specs.Vessels.{tank_head, tank_state, vessel_volume, has_volume, vessel_state}
use Rattle.scheme.specs.Arrivals.{arrivals_from}
use Rattle.scheme.specs.Causes.{IsGoodExactly}
use Rattle.scheme.specs.Ends.{side_one, side_two, through_state}
use Rattle.scheme.specs.NodeCauses.{IsLevel, AtLevel, junction_closed, IsEnd, discharge_closed, discharge_level, IsPassing, JunctionNeeds, DischargeNeeds, InlineNeeds, PumpNeeds, TankNeeds, VesselNeeds, KindNeeds, GatheredNeeds, NodesHaveCauses}
use Rattle.scheme.specs.NodeLaws.{law_of_kind, law_if, node_law, sole, valve_of}
use Rattle.scheme.specs.Values.{value_at, rule_at, IsTimed, Keeps}
use Rattle.scheme.proofs.Divided.{computable}
use Rattle.scheme.proofs.Following.{arrivals_length}
use Rattle.scheme.proofs.Starting.{added}
use Rattle.scheme.proofs.TimeTables.{flow_timed, flow_in as demand_in, opening_timed, opening_in}
use Rattle.fixed_num.proofs.Between.{interp_within}

-- a state judged by what it needs
record Judged (s : NodeState) (Needs : Type 0) : Type 0 where
  rule : IsGoodExactly (is_bad_state s) Needs

never : (Needs : Type 0) → (Needs → ⊥) → Judged BadState Needs
never Needs out = record { rule = record { kept = λ n. absurd (out n); lost = λ _. refl } }

state_judged : (b : Bool) (h v g : ℤ) (flows : List ℤ) → list_all is_flow flows ≡ b → (b ≡ true → unsigned_abs g ≤ 10000000000000000)
    → Judged (cond b (state_of h v g) BadState) (IsLevel h v flows)
state_judged true h v g flows e bound = record {
  rule = record {
    kept = λ r. ap is_bad_state (state_of-good h v g (record { head = r.head; low = r.low; volume = r.volume; growth = bound refl }));
    lost = λ out. ap is_bad_state (state_of-bad h v g (λ x. out (record { head = x.head; low = x.low; volume = x.volume; small = e })));
  };
}
state_judged false h v g flows e bound = never (IsLevel h v flows) (λ r. let x : false ≡ true = sym e ∙ r.small in cc)

at_judged : (h v g : ℤ) (arrivals : List Arrival) → (list_all is_flow (inflows h arrivals) ≡ true → unsigned_abs g ≤ 10000000000000000)
    → Judged (state_at h v g arrivals) (AtLevel (h, v) arrivals)
unfolding state_at
at_judged h v g arrivals bound = state_judged (list_all is_flow (inflows h arrivals)) h v g (inflows h arrivals) refl bound

chosen : (b : Bool) (s t : NodeState) (x y : ℤ × ℤ) (arrivals : List Arrival) → Judged s (AtLevel x arrivals) → Judged t (AtLevel y arrivals) → Judged (cond b s t) (AtLevel (cond b x y) arrivals)
chosen true s t x y arrivals h k = h
chosen false s t x y arrivals h k = k

no_growth : unsigned_abs (pos 0) ≤ 10000000000000000
no_growth = omega arith

-- ---- sums of flows

sum_below : (h : ℤ) (arrivals : List Arrival) → list_all is_flow (inflows h arrivals) ≡ true → unsigned_abs (inflow h arrivals) ≤ 1000000000000 * length arrivals
sum_below h [] f = omega arith
sum_below h (a ∷ arrivals) f =
    let p = and_parts _ _ f in
    let x : unsigned_abs (flow_in h a) ≤ 1000000000000 = leb-true _ _ p.0 in
    added (flow_in h a) (inflow h arrivals) (length arrivals) x (sum_below h arrivals p.1)

sum_small : (h : ℤ) (arrivals : List Arrival) → length arrivals ≤ 16 → list_all is_flow (inflows h arrivals) ≡ true → unsigned_abs (inflow h arrivals) ≤ 16000000000000
sum_small h arrivals l f = let s = sum_below h arrivals f in omega arith

less_small : (d s : ℤ) → unsigned_abs d ≤ 1000000000000 → unsigned_abs s ≤ 16000000000000 → unsigned_abs (d -ℤ s) ≤ 10000000000000000
less_small d s h k = omega (arith, ints)

wider : (s : ℤ) → unsigned_abs s ≤ 16000000000000 → unsigned_abs s ≤ 10000000000000000
wider s h = omega arith

-- ---- each kind

junction-judged : (rule : CavityRule) (demand : ℤ) (own : NodeState) (arrivals : List Arrival) → IsFlow demand → length arrivals ≤ 16 → Judged (junction_state rule demand own arrivals) (JunctionNeeds rule demand own arrivals)
unfolding junction_state
junction-judged rule demand (GoodState h v g) arrivals d l =
    let head = junction_head demand arrivals in
    let now = junction_growth rule.hv demand arrivals in
    let after = cavity_volume rule v g now in
    chosen ((unsigned_abs v == 0) && int_le rule.hv head) (state_at head (pos 0) (pos 0) arrivals) (junction_kept rule.hv head now after arrivals)
    (head, pos 0) (junction_closed rule.hv head after) arrivals (at_judged head (pos 0) (pos 0) arrivals (λ _. no_growth))
    (chosen (int_lt (pos 0) after) (state_at rule.hv after now arrivals) (state_at (int_max head rule.hv) (pos 0) (pos 0) arrivals)
    (rule.hv, after) (int_max head rule.hv, pos 0) arrivals
    (at_judged rule.hv after now arrivals (λ f. less_small demand (inflow rule.hv arrivals) d (sum_small rule.hv arrivals l f)))
    (at_judged (int_max head rule.hv) (pos 0) (pos 0) arrivals (λ _. no_growth)))
junction-judged rule demand BadState arrivals d l = never ⊥ (λ n. n)

reservoir-judged : (head : ℤ) (arrivals : List Arrival) → Judged (reservoir_state head arrivals) (AtLevel (head, pos 0) arrivals)
unfolding reservoir_state
reservoir-judged head arrivals = at_judged head (pos 0) (pos 0) arrivals (λ _. no_growth)

filled-judged : (h v : ℤ) (arrivals : List Arrival) → length arrivals ≤ 16 → Judged (filled h v arrivals) (AtLevel (h, v) arrivals)
filled-judged h v arrivals l = at_judged h v (inflow h arrivals) arrivals (λ f. wider (inflow h arrivals) (sum_small h arrivals l f))

tank-judged : (dt area : ℤ) (own : NodeState) (arrivals : List Arrival) → length arrivals ≤ 16 → Judged (tank_state dt area own arrivals) (TankNeeds dt area own arrivals)
unfolding tank_state
tank-judged dt area (GoodState h v g) arrivals l = filled-judged (tank_head dt area h g arrivals) (pos 0) arrivals l
tank-judged dt area BadState arrivals l = never ⊥ (λ n. n)

within_table : (b : Bool) (s : NodeState) (Needs : Type 0) → Judged s Needs → Judged (cond b s BadState) ((b ≡ true) × Needs)
within_table true s Needs j = record { rule = record { kept = λ n. j.rule.kept n.1; lost = λ out. j.rule.lost (λ n. out (refl, n)) } }
within_table false s Needs j = never ((false ≡ true) × Needs) (λ n. let x : false ≡ true = n.0 in cc)

vessel-judged : (dt : ℤ) (gas : List (ℤ × ℤ)) (own : NodeState) (arrivals : List Arrival) → length arrivals ≤ 16 → Judged (vessel_state dt gas own arrivals) (VesselNeeds dt gas own arrivals)
unfolding vessel_state
vessel-judged dt gas (GoodState h v g) arrivals l =
    let volume = vessel_volume dt v g in
    within_table (has_volume gas volume) (filled (interp gas volume) volume arrivals) (AtLevel (interp gas volume, volume) arrivals) (filled-judged (interp gas volume) volume arrivals l)
vessel-judged dt gas BadState arrivals l = never ⊥ (λ n. n)

-- ---- devices between two pipes

passing_judged : (b : Bool) (q : ℤ) (one two : Arrival) → (is_flow q && is_head (one.c -ℤ impedance_head one.b q) && is_head (two.c +ℤ impedance_head two.b q)) ≡ b
    → Judged (through_state (cond b (Passes q (one.c -ℤ impedance_head one.b q) (two.c +ℤ impedance_head two.b q)) Stuck)) (IsPassing one two q)
passing_judged true q one two e =
    let h1 = one.c -ℤ impedance_head one.b q in
    let h2 = two.c +ℤ impedance_head two.b q in
    let x = and_parts (is_flow q && is_head h1) (is_head h2) e in
    let y = and_parts (is_flow q) (is_head h1) x.0 in
    let f : unsigned_abs q ≤ 1000000000000 = leb-true _ _ y.0 in
    let h : unsigned_abs h1 ≤ 100000000000 = leb-true _ _ y.1 in
    let k : unsigned_abs h2 ≤ 100000000000 = leb-true _ _ x.1 in
    let low : pos 0 ≤ℤ pos 0 = omega (arith, ints) in
    record {
      rule = record {
        kept = λ _. ap is_bad_state (state_of-good h1 (pos 0) (pos 0) (record { head = h; low = low; volume = omega arith; growth = omega arith }));
        lost = λ out. absurd (out (record { flow = f; first = h; second = k }));
      };
    }
passing_judged false q one two e =
    never (IsPassing one two q) (λ r. let x : false ≡ true = sym e ∙ and_from _ _ (and_from _ _ (le-leb _ _ r.flow) (le-leb _ _ r.first)) (le-leb _ _ r.second) in cc)

through-judged : (one two : Arrival) (q : ℤ) → Judged (through_state (through one two q)) (IsPassing one two q)
unfolding through
through-judged one two q =
    passing_judged (is_flow q && is_head (one.c -ℤ impedance_head one.b q) && is_head (two.c +ℤ impedance_head two.b q)) q one two refl

under_limit : (b : Bool) (t : Through) (Needs : Type 0) → Judged (through_state t) Needs → Judged (through_state (cond b Stuck t)) ((b ≡ false) × Needs)
under_limit false t Needs j = record { rule = record { kept = λ n. j.rule.kept n.1; lost = λ out. j.rule.lost (λ n. out (refl, n)) } }
under_limit true t Needs j = never ((true ≡ false) × Needs) (λ n. let x : true ≡ false = n.0 in cc)

-- ---- a discharge valve

first_is : (s : NodeState) (q : ℤ) → (with_flow s q).0 ≡ s
first_is (GoodState h v g) q = refl
first_is BadState q = refl

end_judged : (h v g q : ℤ) → (is_flow q ≡ true → unsigned_abs g ≤ 10000000000000000) → Judged (end_at h v g q).0 (IsEnd (h, v, q))
end_judged h v g q bound =
    subst (λ (s : NodeState). Judged s (IsEnd (h, v, q))) (sym (first_is (cond (is_flow q) (state_of h v g) BadState) q))
    (state_judged (is_flow q) h v g (q ∷ []) (and-true (is_flow q)) bound)

chosen_end : (b : Bool) (s t : NodeState × ℤ) (x y : ℤ × ℤ × ℤ) → Judged s.0 (IsEnd x) → Judged t.0 (IsEnd y) → Judged (cond b s t).0 (IsEnd (cond b x y))
chosen_end true s t x y h k = h
chosen_end false s t x y h k = k

over_judged : (b : Bool) (r : NodeState × ℤ) (Needs : Type 0) → Judged r.0 Needs → Judged (cond b (BadState, pos 0) r).0 ((b ≡ false) × Needs)
over_judged false r Needs j = record { rule = record { kept = λ n. j.rule.kept n.1; lost = λ out. j.rule.lost (λ n. out (refl, n)) } }
over_judged true r Needs j = never ((true ≡ false) × Needs) (λ n. let x : true ≡ false = n.0 in cc)

-- the flow of a valve under a head is far within the range of a growth
some_divisor : (d : ℤ) → IsWithin (pos 10000) (pos 100000000000) d → pos 0 <ℤ d
some_divisor d h = omega (arith, ints)

open_small : (q0 opening : ℤ) → IsWithin (pos 0) (pos 1000000000000) q0 → IsWithin (pos 0) (pos 1000000) opening → unsigned_abs (open_flow q0 opening) ≤ 1000000000000
unfolding open_flow
open_small q0 opening h k =
    let p : pos 0 <ℤ pos 1000000 = omega (arith, ints) in
    let b = open_below q0 opening (rnd (q0 *ℤ opening) (pos 1000000)) h k (size (q0 *ℤ opening) (pos 1000000) p) in
    let m : unsigned_abs q0 ≤ 1000000000000 = omega (arith, ints) in
    omega (arith, b, m)

square_small : (w h0 : ℤ) → unsigned_abs w ≤ 1000000000000 → IsWithin (pos 10000) (pos 100000000000) h0 → unsigned_abs (square_flow w h0) ≤ 100000000000000000001
unfolding square_flow
square_small w h0 h k =
    let m : unsigned_abs (w *ℤ w) ≤ 1000000000000000000000000 = rw (unsigned_abs-mul w w) (mul-le (unsigned_abs w) (unsigned_abs w) 1000000000000 1000000000000 h h) in
    share_below (w *ℤ w) h0 (rnd (w *ℤ w) h0) m k (size (w *ℤ w) h0 (some_divisor h0 k))

root_nat : (m : ℕ) → m ≤ 30000000000000000000000000000000 → unsigned_abs (root (pos m)) ≤ 6000000000000000
root_nat m h =
    let low : pos 0 ≤ℤ pos m = omega (arith, ints) in
    let r = root-is (pos m) low in
    no_less m (unsigned_abs (root (pos m))) 6000000000000000 r.below (omega arith)

root_small : (n : ℤ) → unsigned_abs n ≤ 30000000000000000000000000000000 → unsigned_abs (root n) ≤ 6000000000000000
unfolding root
root_small n h = root_nat (unsigned_abs n) h

signed : (b c : Bool) (q : ℤ) → unsigned_abs (cond b q (cond c (neg_ℤ q) (pos 0))) ≤ unsigned_abs q
signed true c q = omega arith
signed false true q = omega (arith, ints)
signed false false q = omega arith

orifice_small : (square e : ℤ) → unsigned_abs square ≤ 100000000000000000001 → unsigned_abs e ≤ 200000000000 → unsigned_abs (orifice_flow square e) ≤ 6000000000000000
unfolding orifice_flow
orifice_small square e h k =
    let under = square *ℤ pos (unsigned_abs e) in
    let m : unsigned_abs under ≤ 100000000000000000001 * 200000000000 = rw (unsigned_abs-mul square (pos (unsigned_abs e))) (mul-le (unsigned_abs square) (unsigned_abs e) 100000000000000000001 200000000000 h k) in
    let r = root_small under (omega arith) in
    let s = signed (int_lt (pos 0) e) (int_lt e (pos 0)) (root under) in
    omega (arith, r, s)

outflow_small : (valve : Valve) (opening h : ℤ) → IsValve valve.q0 valve.h0 → IsHead valve.outlet → IsWithin (pos 0) (pos 1000000) opening → unsigned_abs h ≤ 100000000000
    → unsigned_abs (outflow valve opening h) ≤ 6000000000000000
outflow_small valve opening h v o t b =
    orifice_small (square_flow (open_flow valve.q0 opening) valve.h0) (h -ℤ valve.outlet)
    (square_small (open_flow valve.q0 opening) valve.h0 (open_small valve.q0 opening v.flow t) v.loss) (omega (arith, ints))

less_flow : (o q : ℤ) → unsigned_abs o ≤ 6000000000000000 → unsigned_abs q ≤ 1000000000000 → unsigned_abs (o -ℤ q) ≤ 10000000000000000
less_flow o q h k = omega (arith, ints)

growth_small : (hv : ℤ) (valve : Valve) (opening : ℤ) (a : Arrival) → unsigned_abs (outflow valve opening hv) ≤ 6000000000000000 → is_flow (flow_in hv a) ≡ true
    → unsigned_abs (discharge_growth hv valve opening a) ≤ 10000000000000000
growth_small hv valve opening a o f = less_flow (outflow valve opening hv) (flow_in hv a) o (leb-true _ _ f)

after_judged : (rule : CavityRule) (valve : Valve) (opening q head v g : ℤ) (a : Arrival) → unsigned_abs (outflow valve opening rule.hv) ≤ 6000000000000000
    → Judged (discharge_after rule valve opening q head v g a).0 (IsEnd (discharge_level rule valve opening q head v g a))
after_judged rule valve opening q head v g a o =
    let now = discharge_growth rule.hv valve opening a in
    let after = cavity_volume rule v g now in
    let inflow = flow_in rule.hv a in
    chosen_end ((unsigned_abs v == 0) && int_le rule.hv head) (end_at head (pos 0) (pos 0) q) (discharge_kept rule.hv q head now after inflow)
    (head, pos 0, q) (discharge_closed rule.hv q head after inflow) (end_judged head (pos 0) (pos 0) q (λ _. no_growth))
    (chosen_end (int_lt (pos 0) after) (end_at rule.hv after now inflow) (end_at (int_max head rule.hv) (pos 0) (pos 0) q)
    (rule.hv, after, inflow) (int_max head rule.hv, pos 0, q)
    (end_judged rule.hv after now inflow (λ f. growth_small rule.hv valve opening a o f))
    (end_judged (int_max head rule.hv) (pos 0) (pos 0) q (λ _. no_growth)))

discharge-judged : (rule : CavityRule) (valve : Valve) (opening : ℤ) (own : NodeState) (a : Arrival) → unsigned_abs (outflow valve opening rule.hv) ≤ 6000000000000000
    → Judged (discharge_state rule valve opening own a) (DischargeNeeds rule valve opening own a)
unfolding discharge_state discharge_end
discharge-judged rule valve opening (GoodState h v g) a o =
    let q = liquid_flow valve opening a in
    let head = liquid_head a q in
    over_judged (is_over valve.q0 valve.h0 a.b) (discharge_after rule valve opening q head v g a) (IsEnd (discharge_level rule valve opening q head v g a))
    (after_judged rule valve opening q head v g a o)
discharge-judged rule valve opening BadState a o = never ⊥ (λ n. n)

-- ---- the law of a node

value_within : (case : Case) (v : Value) (step : ℕ) → IsTimed case v → (low high : ℤ) → Keeps low high case v → IsBetween low high (value_at case v step)
unfolding value_at
value_within case (Fixed x) step timed low high k = k
value_within case (ByTable t) step timed low high k =
    interp_within low high (table_at case t).points _ timed.1.some (recursion_from_All (λ e. IsBetween low high e.1) (table_at case t).points k)

inline-judged : (q0 h0 opening : ℤ) (one two : Arrival) → Judged (through_state (inline_through q0 h0 opening one two)) (InlineNeeds q0 h0 opening one two)
unfolding inline_through
inline-judged q0 h0 opening one two =
    let q = valve_flow (one.b +ℤ two.b) q0 h0 opening (one.c -ℤ two.c) in
    under_limit (is_over q0 h0 (one.b +ℤ two.b)) (through one two q) (IsPassing one two q) (through-judged one two q)

pump-judged : (curve : List (ℤ × ℤ)) (speed : ℤ) (one two : Arrival) → Judged (through_state (pump_through curve speed one two)) (PumpNeeds curve speed one two)
unfolding pump_through
pump-judged curve speed one two = through-judged one two (int_max (free_flow (one.c -ℤ two.c) (one.b +ℤ two.b) speed curve) (pos 0))

kind-judged : (case : Case) (hv : ℤ) (kind : NodeKind) (step : ℕ) (own : NodeState) (ends : List End) (arrivals : List Arrival) → IsRead case → IsKind case.tables kind
    → unsigned_abs hv ≤ 100000000000 → length arrivals ≤ 16 → Judged (law_of_kind case hv kind step own ends arrivals).0 (KindNeeds case hv kind step own ends arrivals)
unfolding law_of_kind
kind-judged case hv (Reservoir head) step own ends arrivals read k b l = reservoir-judged (value_at case head step) arrivals
kind-judged case hv (Junction demand start) step own ends arrivals read k b l =
    junction-judged (rule_at case hv) (value_at case demand step) own arrivals
    (demand_in case demand (value_at case demand step) read k.0 (value_within case demand step (flow_timed case demand read k.0))) l
kind-judged case hv (Discharge q0 h0 outlet opening start) step own ends arrivals read k b l =
    let tau = value_at case opening step in
    discharge-judged (rule_at case hv) (valve_of q0 h0 outlet) tau own (sole arrivals)
    (outflow_small (valve_of q0 h0 outlet) tau hv k.0 k.1 (opening_in case opening tau read k.2 (value_within case opening step (opening_timed case opening read k.2))) b)
kind-judged case hv (Inline q0 h0 opening start start2) step own ends arrivals read k b l =
    inline-judged q0 h0 (value_at case opening step) (side_one ends arrivals) (side_two ends arrivals)
kind-judged case hv (Pump curve speed start start2) step own ends arrivals read k b l =
    pump-judged (table_at case curve).points (value_at case speed step) (side_one ends arrivals) (side_two ends arrivals)
kind-judged case hv (Tank area start) step own ends arrivals read k b l = tank-judged case.dt area own arrivals l
kind-judged case hv (Vessel gas volume) step own ends arrivals read k b l = vessel-judged case.dt (table_at case gas).points own arrivals l

if-judged : (case : Case) (hv : ℤ) (kind : NodeKind) (step : ℕ) (own : NodeState) (ends : List End) (o : Option (List Arrival)) → IsRead case → IsKind case.tables kind
    → unsigned_abs hv ≤ 100000000000 → ((arrivals : List Arrival) → o ≡ Some arrivals → length arrivals ≤ 16) → Judged (law_if case hv kind step own ends o).0 (GatheredNeeds case hv kind step own ends o)
if-judged case hv kind step own ends (Some arrivals) read k b l = kind-judged case hv kind step own ends arrivals read k b (l arrivals refl)
if-judged case hv kind step own ends None read k b l = never ⊥ (λ n. n)

level_small : (e v : ℤ) → unsigned_abs e ≤ 10000000000 → IsWithin (neg_ℤ (pos 100000000)) (pos 0) v → unsigned_abs (e +ℤ v) ≤ 100000000000
level_small e v h k = let low = k.low in let high = k.high in omega (arith, ints)

pub nodes : NodesHaveCauses
unfolding node_law
nodes case mesh accepted k step own near h =
    let fit = computable case mesh accepted in
    let n = fit.read.nodes k no_node (omega (arith, fit.nodes)) in
    let few = (fit.ends k h).few in
    (if-judged case (node_vapour_head case k) (node_at case k).kind step own (ends_of mesh k) (arrivals_from case.friction mesh (ends_of mesh k) near) fit.read n.kind
    (level_small (node_at case k).elevation case.vapour n.elevation fit.read.vapour)
    (λ arrivals e. let l = arrivals_length case.friction mesh (ends_of mesh k) near arrivals e in omega (arith, l, few))).rule
