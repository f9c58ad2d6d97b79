-- Junctions that have no cavity and get none.
use Rattle.std.proofs.Common.{take, slice_set, add-one, ◌+◌, ◌+ℤ◌, ◌≡◌, ◌≤◌, ◌<◌, ℕ, zero, suc, ℤ, pos, negsuc, ◌-ℤ◌, ◌≤ℤ◌, unsigned_abs, true, List, [], ◌∷◌, Option, Some, None, length, get_or, nat_le, arith, refl, subst, sym, ap, ◌∙◌, IfSome}
use Rattle.std.specs.List.{list_all}
use Rattle.std.proofs.lemmas.Int.{ints}
use Rattle.std.proofs.lemmas.Bool.{eqb-true}
use Rattle.std.proofs.lemmas.Bool.Decides.{nat_tests}
use Rattle.case_model.specs.declared.cases.Case.{Case}
use Rattle.case_model.specs.declared.cases.NodeKind.TheVariants.{Junction}
use Rattle.case_model.specs.declared.cases.Value.{Value}
use Rattle.case_model.specs.declared.meshes.Arrival.{Arrival}
use Rattle.case_model.specs.declared.meshes.CavityRule.{CavityRule}
use Rattle.case_model.specs.declared.meshes.End.{End}
use Rattle.case_model.specs.declared.points.Point.{Point}
use Rattle.case_model.specs.declared.states.NodeState.{NodeState}
use Rattle.case_model.specs.declared.states.NodeState.TheVariants.{Good, Bad}
use Rattle.charline.specs.Characteristics.{driven_flow, flow_in}
use Rattle.junctions.specs.Junctions.{junction_head, junction_state, junction_flows}
use Rattle.junctions.specs.Sums.{sum_of}
use Rattle.junctions.specs.Levels.{is_flow, inflows}
use Rattle.junctions.proofs.Calm.{calm_junction, calm_flows}
use Rattle.scheme.specs.CalmNodes.{is_closed, IsJunction}
use Rattle.scheme.specs.Ends.{end_point, end_points}
use Rattle.scheme.specs.NodeLaws.{law_if, law_of_kind}
use Rattle.scheme.specs.Values.{value_at, rule_at}
use Rattle.std.proofs.lemmas.Grind.{common_steps}
use Rattle.scheme.proofs.EndPoints.{PointedTo}
use Rattle.scheme.proofs.Gathered.{no_arrival, no_end}

sum_put_suc : (f : Arrival → ℤ) (xs : List Arrival) (i : ℕ) (a : Arrival) → i < length xs → sum_of f (take (suc i) (slice_set xs i a)) ≡ sum_of f (take i xs) +ℤ f a
sum_put_suc f [] i a h = absurd (omega arith)
sum_put_suc f (x ∷ xs) zero a h = omega (arith, ints)
sum_put_suc f (x ∷ xs) (suc i) a h = omega (arith, ints, sum_put_suc f xs i a (omega arith))

-- a sum over what arrives, with what arrives along one end more
pub sum_put : (f : Arrival → ℤ) (xs : List Arrival) (i : ℕ) (a : Arrival) → i < length xs → sum_of f (take (i + 1) (slice_set xs i a)) ≡ sum_of f (take i xs) +ℤ f a
sum_put f xs i a h = rw add-one (sum_put_suc f xs i a h)

-- the points of the first ends, with that of one end more
pub pointed_more : (state : NodeState) (ends : List End) (flows : List ℤ) (points : List Point) (i : ℕ) (p : Point) → i < length points → PointedTo state ends flows points i → p ≡ end_point state (get_or ends i no_end) (get_or flows i (pos 0)) → PointedTo state ends flows (slice_set points i p) (i + 1)
pointed_more state ends flows points i p inside h e = λ k below. grind (arith, common_steps, h k)

-- flows that are each in range
pub all_flows : (head : ℤ) (arrivals : List Arrival) → ((k : ℕ) → k < length arrivals → unsigned_abs (flow_in head (get_or arrivals k no_arrival)) ≤ 1000000000000) → list_all is_flow (inflows head arrivals) ≡ true
all_flows head [] h = refl
all_flows head (a ∷ arrivals) h =
    let first : unsigned_abs (flow_in head a) ≤ 1000000000000 = h 0 (omega arith) in
    let t : nat_le (unsigned_abs (flow_in head a)) 1000000000000 ≡ true = grind (arith, nat_tests) in
    rw (t, all_flows head arrivals (λ k l. h (suc k) (omega arith))) refl

-- the flow that a difference drives is that into the node
pub flow_told : (found : Option ℤ) (head : ℤ) (a : Arrival) (b : ℤ) → a.b ≡ b → IfSome found (λ flow. flow ≡ driven_flow (a.c -ℤ head) b) → IfSome found (λ flow. flow ≡ flow_in head a)
flow_told None head a b e h = tt
flow_told (Some q) head a b e h = h ∙ ap (λ (z : ℤ). driven_flow (a.c -ℤ head) z) (sym e)

settled : (rule : CavityRule) (demand h g : ℤ) (arrivals : List Arrival) (head : ℤ) → junction_head demand arrivals ≡ head → rule.hv ≤ℤ head → unsigned_abs head ≤ 100000000000 → list_all is_flow (inflows head arrivals) ≡ true → junction_state rule demand (Good h (pos 0) g) arrivals ≡ Good head (pos 0) (pos 0)
settled rule demand h g arrivals head e above near few =
    subst (λ (x : ℤ). rule.hv ≤ℤ x → unsigned_abs x ≤ 100000000000 → list_all is_flow (inflows x arrivals) ≡ true → junction_state rule demand (Good h (pos 0) g) arrivals ≡ Good x (pos 0) (pos 0)) e
    (calm_junction rule demand h g arrivals) above near few

settled_all : (rule : CavityRule) (demand h g : ℤ) (ends : List End) (arrivals : List Arrival) (head : ℤ) (points : List Point) → junction_state rule demand (Good h (pos 0) g) arrivals ≡ Good head (pos 0) (pos 0) → points ≡ end_points (Good head (pos 0) (pos 0)) ends (inflows head arrivals) → IsJunction rule demand (Good h (pos 0) g) ends (Some arrivals) (Good head (pos 0) (pos 0)) points
settled_all rule demand h g ends arrivals head points s p =
    (sym s, p ∙ ap (λ (flows : List ℤ). end_points (Good head (pos 0) (pos 0)) ends flows) (sym (calm_flows rule demand h g head arrivals s)))

pub junction_told : (rule : CavityRule) (demand : ℤ) (own : NodeState) (ends : List End) (found : Option (List Arrival)) (arrivals : List Arrival) (head : ℤ) (points : List Point) → is_closed own ≡ true → found ≡ Some arrivals → junction_head demand arrivals ≡ head → rule.hv ≤ℤ head → unsigned_abs head ≤ 100000000000 → list_all is_flow (inflows head arrivals) ≡ true → points ≡ end_points (Good head (pos 0) (pos 0)) ends (inflows head arrivals) → IsJunction rule demand own ends found (Good head (pos 0) (pos 0)) points
junction_told rule demand (Good h (pos zero) g) ends found arrivals head points closed f e above near few p =
    subst (λ (o : Option (List Arrival)). IsJunction rule demand (Good h (pos 0) g) ends o (Good head (pos 0) (pos 0)) points) (sym f)
    (settled_all rule demand h g ends arrivals head points (settled rule demand h g arrivals head e above near few) p)
junction_told rule demand (Good h (pos (suc v)) g) ends found arrivals head points closed f e above near few p = absurd (omega (arith, eqb-true (suc v) 0 closed))
junction_told rule demand (Good h (negsuc v) g) ends found arrivals head points closed f e above near few p = absurd (omega (arith, eqb-true (suc v) 0 closed))
junction_told rule demand Bad ends found arrivals head points closed f e above near few p = absurd cc

-- which is the law of the node
pub state_told : (case : Case) (hv : ℤ) (demand : Value) (start d : ℤ) (step : ℕ) (own : NodeState) (ends : List End) (found : Option (List Arrival)) (told : Option NodeState) (points : List Point) → d ≡ value_at case demand step → IfSome told (λ s. IsJunction (rule_at case hv) d own ends found s points) → IfSome told (λ s. s ≡ (law_if case hv (Junction demand start) step own ends found).0)
unfolding law_of_kind
state_told case hv demand start d step own ends found None points e h = tt
state_told case hv demand start d step own ends None (Some s) points e h = absurd h
state_told case hv demand start d step own ends (Some arrivals) (Some s) points e h = h.0 ∙ ap (λ (x : ℤ). junction_state (rule_at case hv) x own arrivals) e

pub points_told : (case : Case) (hv : ℤ) (demand : Value) (start d : ℤ) (step : ℕ) (own : NodeState) (ends : List End) (found : Option (List Arrival)) (told : Option NodeState) (points : List Point) → d ≡ value_at case demand step → IfSome told (λ s. IsJunction (rule_at case hv) d own ends found s points) → IfSome told (λ s. points ≡ (law_if case hv (Junction demand start) step own ends found).1)
unfolding law_of_kind
points_told case hv demand start d step own ends found None points e h = tt
points_told case hv demand start d step own ends None (Some s) points e h = absurd h
points_told case hv demand start d step own ends (Some arrivals) (Some s) points e h =
    h.1 ∙ ap (λ (x : NodeState). end_points x ends (junction_flows (rule_at case hv) d own arrivals)) h.0
    ∙ ap (λ (x : ℤ). end_points (junction_state (rule_at case hv) x own arrivals) ends (junction_flows (rule_at case hv) x own arrivals)) e
