-- Discharge valves, by what arrives along their only end.
use Rattle.std.proofs.Common.{◌≡◌, ◌∙◌, ℕ, ℤ, List, [], ◌∷◌, Option, Some, None, length, get_or, arith, refl, subst, sym, ap, IfSome}
use Rattle.case_model.specs.declared.cases.Case.{Case}
use Rattle.case_model.specs.declared.cases.Friction.{Friction}
use Rattle.case_model.specs.declared.cases.NodeKind.TheVariants.{Discharge}
use Rattle.case_model.specs.declared.cases.Value.{Value}
use Rattle.case_model.specs.declared.meshes.Arrival.{Arrival}
use Rattle.case_model.specs.declared.meshes.CavityRule.{CavityRule}
use Rattle.case_model.specs.declared.meshes.End.{End}
use Rattle.case_model.specs.declared.meshes.Mesh.{Mesh}
use Rattle.case_model.specs.declared.points.Point.{Point}
use Rattle.case_model.specs.declared.states.NodeState.{NodeState}
use Rattle.valves.specs.declared.discharges.Valve.{Valve}
use Rattle.valves.specs.Discharges.{discharge_state, discharge_flow}
use Rattle.scheme.specs.Arrivals.{arrival_from, arrivals_from}
use Rattle.scheme.specs.Ends.{end_points}
use Rattle.scheme.specs.NodeLaws.{law_if, law_of_kind, sole, valve_of}
use Rattle.scheme.specs.ValveEnds.{IsDischarge}
use Rattle.scheme.specs.Values.{value_at, rule_at}
use Rattle.scheme.proofs.Gathered.{no_end, no_point}

-- what arrives along an only end
pub sole_arrival : (friction : Friction) (mesh : Mesh) (ends : List End) (near : List Point) (a : Arrival) → length ends ≡ 1 → length near ≡ length ends → arrival_from friction mesh (get_or ends 0 no_end) (get_or near 0 no_point) ≡ Some a → arrivals_from friction mesh ends near ≡ Some (a ∷ [])
sole_arrival friction mesh [] near a one each h = absurd (omega arith)
sole_arrival friction mesh (e ∷ []) [] a one each h = absurd (omega arith)
sole_arrival friction mesh (e ∷ []) (p ∷ near) a one each h = rw h refl
sole_arrival friction mesh (e ∷ f ∷ ends) near a one each h = absurd (omega arith)

pub valve_told : (rule : CavityRule) (valve : Valve) (opening : ℤ) (own : NodeState) (ends : List End) (found : Option (List Arrival)) (a : Arrival) (state : NodeState) (points : List Point) → found ≡ Some (a ∷ []) → state ≡ discharge_state rule valve opening own a → points ≡ end_points state ends (discharge_flow rule valve opening own a ∷ []) → IsDischarge rule valve opening own ends found state points
valve_told rule valve opening own ends found a state points f s p =
    subst (λ (o : Option (List Arrival)). IsDischarge rule valve opening own ends o state points) (sym f) (s, p)

-- the same of equal rules, valves and openings
pub same_valve : (r s : CavityRule) (u v : Valve) (x y : ℤ) (own : NodeState) (ends : List End) (found : Option (List Arrival)) (told : Option NodeState) (points : List Point) → r ≡ s → u ≡ v → x ≡ y → IfSome told (λ (z : NodeState). IsDischarge r u x own ends found z points) → IfSome told (λ (z : NodeState). IsDischarge s v y own ends found z points)
same_valve r s u v x y own ends found told points e f g h =
    subst (λ (a : CavityRule). IfSome told (λ (z : NodeState). IsDischarge a v y own ends found z points)) e
    (subst (λ (b : Valve). IfSome told (λ (z : NodeState). IsDischarge r b y own ends found z points)) f
    (subst (λ (c : ℤ). IfSome told (λ (z : NodeState). IsDischarge r u c own ends found z points)) g h))

-- which is the law of the node
pub state_told : (case : Case) (hv q0 h0 outlet : ℤ) (opening : Value) (start : ℤ) (step : ℕ) (own : NodeState) (ends : List End) (found : Option (List Arrival)) (told : Option NodeState) (points : List Point) → IfSome told (λ (s : NodeState). IsDischarge (rule_at case hv) (valve_of q0 h0 outlet) (value_at case opening step) own ends found s points) → IfSome told (λ (s : NodeState). s ≡ (law_if case hv (Discharge q0 h0 outlet opening start) step own ends found).0)
unfolding law_of_kind
state_told case hv q0 h0 outlet opening start step own ends found None points h = tt
state_told case hv q0 h0 outlet opening start step own ends None (Some s) points h = absurd h
state_told case hv q0 h0 outlet opening start step own ends (Some arrivals) (Some s) points h = h.0

pub points_told : (case : Case) (hv q0 h0 outlet : ℤ) (opening : Value) (start : ℤ) (step : ℕ) (own : NodeState) (ends : List End) (found : Option (List Arrival)) (told : Option NodeState) (points : List Point) → IfSome told (λ (s : NodeState). IsDischarge (rule_at case hv) (valve_of q0 h0 outlet) (value_at case opening step) own ends found s points) → IfSome told (λ (s : NodeState). points ≡ (law_if case hv (Discharge q0 h0 outlet opening start) step own ends found).1)
unfolding law_of_kind
points_told case hv q0 h0 outlet opening start step own ends found None points h = tt
points_told case hv q0 h0 outlet opening start step own ends None (Some s) points h = absurd h
points_told case hv q0 h0 outlet opening start step own ends (Some arrivals) (Some s) points h =
    h.1 ∙ ap (λ (z : NodeState). end_points z ends (discharge_flow (rule_at case hv) (valve_of q0 h0 outlet) (value_at case opening step) own (sole arrivals) ∷ [])) h.0
