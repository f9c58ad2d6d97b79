-- The meaning of a case doesn't hang on its version, nor on the lines of its parts.
use Rattle.std.proofs.Common.{ℕ, ℤ, ◌≡◌, ◌+ℤ◌, Bool, true, false, Option, Some, None, List, [], ◌∷◌, refl, ap, ◌∙◌}
use Rattle.std.proofs.Math.Path.{fun_ext}
use Rattle.case_model.specs.declared.cases.Case.{Case}
use Rattle.case_model.specs.declared.cases.Friction.{Friction}
use Rattle.case_model.specs.declared.cases.NodeKind.{NodeKind}
use Rattle.case_model.specs.declared.cases.NodeKind.TheVariants.{Reservoir, Junction, Discharge, Inline, Pump, Tank, Vessel}
use Rattle.case_model.specs.declared.cases.Value.{Value}
use Rattle.case_model.specs.declared.cases.Value.TheVariants.{Fixed, ByTable}
use Rattle.case_model.specs.declared.meshes.Arrival.{Arrival}
use Rattle.case_model.specs.declared.meshes.CavityRule.{CavityRule}
use Rattle.case_model.specs.declared.meshes.End.{End}
use Rattle.case_model.specs.declared.meshes.Mesh.{Mesh}
use Rattle.case_model.specs.declared.points.Point.{Point}
use Rattle.case_model.specs.declared.states.NodeState.{NodeState}
use Rattle.case_model.specs.Division.{node_vapour_head, vapour_head}
use Rattle.case_model.specs.Meaning.{Meaning}
use Rattle.case_model.specs.Mesh.{ends_of}
use Rattle.case_model.specs.Parts.{pipe_at, node_at, table_at}
use Rattle.scheme.specs.Arrivals.{arrivals_from}
use Rattle.scheme.specs.Laws.{inner_law, meaning_of}
use Rattle.scheme.specs.NodeLaws.{law_of_kind, law_if, node_law}
use Rattle.scheme.specs.Starts.{start_head, start_inflow, start_growth, start_node, start_point}
use Rattle.scheme.specs.Values.{value_at, rule_at}
use Rattle.upgrading.proofs.Same.{AreAlike}

value_same : (again case : Case) → AreAlike again case → (v : Value) (step : ℕ) → value_at again v step ≡ value_at case v step
unfolding value_at
value_same again case a (Fixed x) step = refl
value_same again case a (ByTable t) step = rw (a.points t, a.dt) refl

rule_same : (again case : Case) → AreAlike again case → (hv : ℤ) → rule_at again hv ≡ rule_at case hv
rule_same again case a hv = rw (a.dt, a.weight) refl

place_head_same : (again case : Case) → AreAlike again case → (mesh : Mesh) (p i : ℕ) → vapour_head again mesh p i ≡ vapour_head case mesh p i
place_head_same again case a mesh p i =
    rw (a.first p, a.last p, a.level (pipe_at case p).first, a.level (pipe_at case p).last, a.vapour) refl

node_head_same : (again case : Case) → AreAlike again case → (k : ℕ) → node_vapour_head again k ≡ node_vapour_head case k
node_head_same again case a k = rw (a.level k, a.vapour) refl

inner_same : (again case : Case) → AreAlike again case → (mesh : Mesh) (p i : ℕ) (left own right : Point)
    → inner_law again mesh p i left own right ≡ inner_law case mesh p i left own right
unfolding inner_law
inner_same again case a mesh p i left own right =
    let h = place_head_same again case a mesh p i in
    let r : rule_at again (vapour_head again mesh p i) ≡ rule_at case (vapour_head case mesh p i) =
    rule_same again case a (vapour_head again mesh p i) ∙ ap (rule_at case) h in
    rw (a.friction, r) refl

kind_same : (again case : Case) → AreAlike again case → (hv : ℤ) (kind : NodeKind) (step : ℕ) (own : NodeState) (ends : List End) (arrivals : List Arrival)
    → law_of_kind again hv kind step own ends arrivals ≡ law_of_kind case hv kind step own ends arrivals
unfolding law_of_kind
kind_same again case a hv (Reservoir head) step own ends arrivals = rw (value_same again case a head step) refl
kind_same again case a hv (Junction demand start) step own ends arrivals = rw (value_same again case a demand step, rule_same again case a hv) refl
kind_same again case a hv (Discharge q0 h0 outlet opening start) step own ends arrivals = rw (value_same again case a opening step, rule_same again case a hv) refl
kind_same again case a hv (Inline q0 h0 opening start start2) step own ends arrivals = rw (value_same again case a opening step) refl
kind_same again case a hv (Pump curve speed start start2) step own ends arrivals = rw (value_same again case a speed step, a.points curve) refl
kind_same again case a hv (Tank area start) step own ends arrivals = rw a.dt refl
kind_same again case a hv (Vessel gas volume) step own ends arrivals = rw (a.dt, a.points gas) refl

if_same : (again case : Case) → AreAlike again case → (hv : ℤ) (kind : NodeKind) (step : ℕ) (own : NodeState) (ends : List End) (arrivals : Option (List Arrival))
    → law_if again hv kind step own ends arrivals ≡ law_if case hv kind step own ends arrivals
if_same again case a hv kind step own ends (Some arrivals) = kind_same again case a hv kind step own ends arrivals
if_same again case a hv kind step own ends None = refl

node_same : (again case : Case) → AreAlike again case → (mesh : Mesh) (k step : ℕ) (own : NodeState) (near : List Point)
    → node_law again mesh k step own near ≡ node_law case mesh k step own near
unfolding node_law
node_same again case a mesh k step own near =
    if_same again case a (node_vapour_head again k) (node_at again k).kind step own (ends_of mesh k) (arrivals_from again.friction mesh (ends_of mesh k) near)
    ∙ ap (λ (hv : ℤ). law_if case hv (node_at again k).kind step own (ends_of mesh k) (arrivals_from again.friction mesh (ends_of mesh k) near)) (node_head_same again case a k)
    ∙ ap (λ (kind : NodeKind). law_if case (node_vapour_head case k) kind step own (ends_of mesh k) (arrivals_from again.friction mesh (ends_of mesh k) near)) (a.kind k)
    ∙ ap (λ (f : Friction). law_if case (node_vapour_head case k) (node_at case k).kind step own (ends_of mesh k) (arrivals_from f mesh (ends_of mesh k) near)) a.friction

head_same : (again case : Case) → AreAlike again case → (kind : NodeKind) (at_last : Bool) → start_head again kind at_last ≡ start_head case kind at_last
unfolding start_head
head_same again case a (Reservoir head) at_last = value_same again case a head 0
head_same again case a (Junction demand start) at_last = refl
head_same again case a (Discharge q0 h0 outlet opening start) at_last = refl
head_same again case a (Inline q0 h0 opening start start2) at_last = refl
head_same again case a (Pump curve speed start start2) at_last = refl
head_same again case a (Tank area start) at_last = refl
head_same again case a (Vessel gas volume) at_last = rw (a.points gas) refl

inflow_same : (again case : Case) → AreAlike again case → (ends : List End) → start_inflow again ends ≡ start_inflow case ends
inflow_same again case a [] = refl
inflow_same again case a (e ∷ ends) = rw (a.flow e.pipe, inflow_same again case a ends) refl

growth_same : (again case : Case) → AreAlike again case → (kind : NodeKind) (ends : List End) → start_growth again kind ends ≡ start_growth case kind ends
growth_same again case a (Reservoir head) ends = refl
growth_same again case a (Junction demand start) ends = refl
growth_same again case a (Discharge q0 h0 outlet opening start) ends = refl
growth_same again case a (Inline q0 h0 opening start start2) ends = refl
growth_same again case a (Pump curve speed start start2) ends = refl
growth_same again case a (Tank area start) ends = inflow_same again case a ends
growth_same again case a (Vessel gas volume) ends = inflow_same again case a ends

start_node_same : (again case : Case) → AreAlike again case → (mesh : Mesh) (k : ℕ) → start_node again mesh k ≡ start_node case mesh k
unfolding start_node
start_node_same again case a mesh k =
    rw (a.kind k, head_same again case a (node_at case k).kind true, growth_same again case a (node_at case k).kind (ends_of mesh k)) refl

start_point_same : (again case : Case) → AreAlike again case → (mesh : Mesh) (p i : ℕ) → start_point again mesh p i ≡ start_point case mesh p i
unfolding start_point
start_point_same again case a mesh p i =
    rw (
      a.first p,
      a.last p,
      a.flow p,
      a.kind (pipe_at case p).first,
      a.kind (pipe_at case p).last,
      head_same again case a (node_at case (pipe_at case p).first).kind false,
      head_same again case a (node_at case (pipe_at case p).last).kind true,
    ) refl

made_same : (mesh : Mesh) (i j : ℕ → ℕ → Point → Point → Point → Point) (n m : ℕ → ℕ → NodeState → List Point → NodeState) (e f : ℕ → ℕ → NodeState → List Point → List Point)
    (p q : ℕ → ℕ → Point) (s t : ℕ → NodeState) → i ≡ j → n ≡ m → e ≡ f → p ≡ q → s ≡ t
    → (let x : Meaning = record { mesh = mesh; inner = i; node = n; ends = e; start_point = p; start_node = s } in x)
    ≡ (let y : Meaning = record { mesh = mesh; inner = j; node = m; ends = f; start_point = q; start_node = t } in y)
made_same mesh i j n m e f p q s t a b c d g = rw (a, b, c, d, g) refl

pub meaning_same : (again case : Case) → AreAlike again case → (mesh : Mesh) → meaning_of again mesh ≡ meaning_of case mesh
unfolding meaning_of
meaning_same again case a mesh =
    made_same mesh (inner_law again mesh) (inner_law case mesh)
    (λ k step own near. (node_law again mesh k step own near).0) (λ k step own near. (node_law case mesh k step own near).0)
    (λ k step own near. (node_law again mesh k step own near).1) (λ k step own near. (node_law case mesh k step own near).1)
    (start_point again mesh) (start_point case mesh) (start_node again mesh) (start_node case mesh)
    (fun_ext (λ p. fun_ext (λ i. fun_ext (λ left. fun_ext (λ own. fun_ext (λ right. inner_same again case a mesh p i left own right))))))
    (fun_ext (λ k. fun_ext (λ step. fun_ext (λ own. fun_ext (λ near. ap (λ (r : NodeState × List Point). r.0) (node_same again case a mesh k step own near))))))
    (fun_ext (λ k. fun_ext (λ step. fun_ext (λ own. fun_ext (λ near. ap (λ (r : NodeState × List Point). r.1) (node_same again case a mesh k step own near))))))
    (fun_ext (λ p. fun_ext (λ i. start_point_same again case a mesh p i)))
    (fun_ext (λ k. start_node_same again case a mesh k))
