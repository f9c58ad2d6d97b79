-- The division of a case is the same whatever the lines of its parts.
use Rattle.std.proofs.Common.{inl, inr, ℕ, zero, suc, ◌+◌, ◌<◌, ◌≡◌, ◌==◌, ◌&&◌, Bool, true, false, ℤ, List, [], ◌∷◌, map, take, length, get_or, sym, ap, ◌∙◌, refl, arith}
use Rattle.std.proofs.lemmas.List.FromFn.{length-range_with_len, get_or-range_with_len}
use Rattle.std.proofs.lemmas.List.Folds.{list_any_at, Any-from_list_any}
use Rattle.std.proofs.lemmas.List.Sums.{sum_by-cons}
use Rattle.std.proofs.lemmas.Bool.{and_parts, and_from, or_cases, or_left, or_right, eq-eqb}
use Rattle.std.specs.List.{range_with_len, sum_by, cons_option}
use Rattle.case_model.specs.declared.cases.Case.{Case}
use Rattle.case_model.specs.declared.cases.Table.{Table}
use Rattle.case_model.specs.declared.cases.Node.{Node}
use Rattle.case_model.specs.declared.cases.NodeKind.{NodeKind}
use Rattle.case_model.specs.declared.cases.NodeKind.TheVariants.{Reservoir, Junction, Discharge, Inline, Pump, Tank, Vessel}
use Rattle.case_model.specs.declared.cases.Pipe.{Pipe}
use Rattle.case_model.specs.declared.cases.Probe.{Probe}
use Rattle.case_model.specs.declared.cases.ProbeAt.{ProbeAt}
use Rattle.case_model.specs.declared.cases.ProbeAt.TheVariants.{OnPipe, OnNode}
use Rattle.case_model.specs.declared.meshes.End.{End}
use Rattle.case_model.specs.Sets.{Rules, IsEmpty, AreEmpty, on_line, either, any_below}
use Rattle.case_model.specs.Ends.{end_if, ends_at}
use Rattle.case_model.specs.Formulas.{reach_count, b_of, r_of}
use Rattle.case_model.specs.Parts.{no_pipe, no_node, no_table, no_probe, pipe_at, node_at, table_at, probe_at}
use Rattle.case_model.specs.Division.{is_adjusted, has_coefficients, is_divided, divides, place_base, reaches_at, b_at, pipe_mesh, node_ends, mesh_of}
use Rattle.case_model.specs.Refusals.{is_through, valve_over, is_outside, exceeds, breaks_pipe, breaks_node, is_off, pipe_rules, node_rules, probe_rules, part_rules, sample_count, is_too_large, size_rules, passes}
use Rattle.round_trip.specs.Renumbered.{first_part, tables_on, nodes_on, pipes_on, probes_on, renumbered}

-- what doesn't hang on the line of a part
pub pipe_kept : {Y : Type 0} (f : Pipe → Y) → ((p : Pipe) (line : ℕ) → f (record p { line = line }) ≡ f p) → (line : ℕ) (ps : List Pipe) (k : ℕ) → f (get_or (pipes_on line ps) k no_pipe) ≡ f (get_or ps k no_pipe)
pipe_kept f s line [] k = refl
pipe_kept f s line (p ∷ ps) zero = s p line
pipe_kept f s line (p ∷ ps) (suc k) = pipe_kept f s (line + 1) ps k

pub node_kept : {Y : Type 0} (f : Node → Y) → ((n : Node) (line : ℕ) → f (record n { line = line }) ≡ f n) → (line : ℕ) (ns : List Node) (k : ℕ) → f (get_or (nodes_on line ns) k no_node) ≡ f (get_or ns k no_node)
node_kept f s line [] k = refl
node_kept f s line (n ∷ ns) zero = s n line
node_kept f s line (n ∷ ns) (suc k) = node_kept f s (line + 1) ns k

points_kept : (line : ℕ) (ts : List Table) (k : ℕ) → (get_or (tables_on line ts) k no_table).points ≡ (get_or ts k no_table).points
points_kept line [] k = refl
points_kept line (t ∷ ts) zero = refl
points_kept line (t ∷ ts) (suc k) = points_kept (line + 1) ts k

spot_kept : (line : ℕ) (qs : List Probe) (k : ℕ) → (get_or (probes_on line qs) k no_probe).at ≡ (get_or qs k no_probe).at
spot_kept line [] k = refl
spot_kept line (q ∷ qs) zero = refl
spot_kept line (q ∷ qs) (suc k) = spot_kept (line + 1) qs k

-- as many parts as before
pub nodes_length : (line : ℕ) (ns : List Node) → length (nodes_on line ns) ≡ length ns
nodes_length line [] = refl
nodes_length line (n ∷ ns) = omega (arith, nodes_length (line + 1) ns)

pub pipes_length : (line : ℕ) (ps : List Pipe) → length (pipes_on line ps) ≡ length ps
pipes_length line [] = refl
pipes_length line (p ∷ ps) = omega (arith, pipes_length (line + 1) ps)

pub probes_length : (line : ℕ) (qs : List Probe) → length (probes_on line qs) ≡ length qs
probes_length line [] = refl
probes_length line (q ∷ qs) = omega (arith, probes_length (line + 1) qs)

-- the numbers of a pipe
reach_same : (dt : ℤ) (p : Pipe) (line : ℕ) → reach_count dt (record p { line = line }) ≡ reach_count dt p
unfolding reach_count
reach_same dt p line = refl

divided_same : (dt tolerance : ℤ) (p : Pipe) (line : ℕ) → is_divided dt tolerance (record p { line = line }) ≡ is_divided dt tolerance p
unfolding reach_count is_adjusted has_coefficients
divided_same dt tolerance p line = refl

b_same : (dt : ℤ) (p : Pipe) (line : ℕ) → b_of dt (reach_count dt (record p { line = line })) (record p { line = line }) ≡ b_of dt (reach_count dt p) p
unfolding reach_count
b_same dt p line = refl

r_same : (dt : ℤ) (p : Pipe) (line : ℕ) → r_of (reach_count dt (record p { line = line })) (record p { line = line }) ≡ r_of (reach_count dt p) p
unfolding reach_count
r_same dt p line = refl

breaks_same : (dt tolerance : ℤ) (number : ℕ) (p : Pipe) (line : ℕ) → breaks_pipe dt tolerance (record p { line = line }) number ≡ breaks_pipe dt tolerance p number
unfolding breaks_pipe reach_count is_adjusted has_coefficients
breaks_same dt tolerance number p line = refl

-- the same at each pipe of a case
divides_kept : (case : Case) (p : ℕ) → divides (renumbered case) p ≡ divides case p
unfolding divides renumbered
divides_kept case p = pipe_kept (is_divided case.dt case.tolerance) (divided_same case.dt case.tolerance) (first_part case.version + length case.tables + length case.nodes) case.pipes p

reaches_kept : (case : Case) (p : ℕ) → reaches_at (renumbered case) p ≡ reaches_at case p
unfolding renumbered
reaches_kept case p = pipe_kept (reach_count case.dt) (reach_same case.dt) (first_part case.version + length case.tables + length case.nodes) case.pipes p

b_kept : (case : Case) (p : ℕ) → b_at (renumbered case) p ≡ b_at case p
unfolding renumbered
b_kept case p = pipe_kept (λ (x : Pipe). b_of case.dt (reach_count case.dt x) x) (b_same case.dt) (first_part case.version + length case.tables + length case.nodes) case.pipes p

r_kept : (case : Case) (p : ℕ) → r_of (reaches_at (renumbered case) p) (pipe_at (renumbered case) p) ≡ r_of (reaches_at case p) (pipe_at case p)
unfolding renumbered
r_kept case p = pipe_kept (λ (x : Pipe). r_of (reach_count case.dt x) x) (r_same case.dt) (first_part case.version + length case.tables + length case.nodes) case.pipes p

pipe_breaks_kept : (case : Case) (p number : ℕ) → breaks_pipe (renumbered case).dt (renumbered case).tolerance (pipe_at (renumbered case) p) number ≡ breaks_pipe case.dt case.tolerance (pipe_at case p) number
unfolding renumbered
pipe_breaks_kept case p number = pipe_kept (λ (x : Pipe). breaks_pipe case.dt case.tolerance x number) (breaks_same case.dt case.tolerance number) (first_part case.version + length case.tables + length case.nodes) case.pipes p

pub gas_kept : (case : Case) (t : ℕ) → (table_at (renumbered case) t).points ≡ (table_at case t).points
unfolding renumbered
gas_kept case t = points_kept (first_part case.version) case.tables t

pub kind_kept : (case : Case) (k : ℕ) → (node_at (renumbered case) k).kind ≡ (node_at case k).kind
unfolding renumbered
kind_kept case k = node_kept (λ (n : Node). n.kind) (λ n line. refl) (first_part case.version + length case.tables) case.nodes k

pub at_kept : (case : Case) (q : ℕ) → (probe_at (renumbered case) q).at ≡ (probe_at case q).at
unfolding renumbered
at_kept case q = spot_kept (first_part case.version + length case.tables + length case.nodes + length case.pipes) case.probes q

ends_same : (k index line : ℕ) (ps : List Pipe) → ends_at k index (pipes_on line ps) ≡ ends_at k index ps
ends_same k index line [] = refl
ends_same k index line (p ∷ ps) = ap (λ (es : List End). cons_option (end_if (p.first == k) index false) (cons_option (end_if (p.last == k) index true) es)) (ends_same k (index + 1) (line + 1) ps)

ends_kept : (case : Case) (k : ℕ) → node_ends (renumbered case) k ≡ node_ends case k
unfolding renumbered
ends_kept case k = ends_same k 0 (first_part case.version + length case.tables + length case.nodes) case.pipes

-- the numbers of a node
valve_kept : (case : Case) (q0 h0 : ℤ) (ends : List End) → valve_over (renumbered case) q0 h0 ends ≡ valve_over case q0 h0 ends
valve_kept case q0 h0 [] = refl
valve_kept case q0 h0 (a ∷ []) = rw (divides_kept case a.pipe, b_kept case a.pipe) refl
valve_kept case q0 h0 (a ∷ b ∷ []) = rw (divides_kept case a.pipe, divides_kept case b.pipe, b_kept case a.pipe, b_kept case b.pipe) refl
valve_kept case q0 h0 (a ∷ b ∷ c ∷ ends) = refl

exceeds_kept : (case : Case) (kind : NodeKind) (ends : List End) → exceeds (renumbered case) kind ends ≡ exceeds case kind ends
unfolding exceeds
exceeds_kept case (Reservoir head) ends = refl
exceeds_kept case (Junction demand start) ends = refl
exceeds_kept case (Discharge q0 h0 outlet opening start) ends = ap (λ (b : Bool). (length ends == 1) && b) (valve_kept case q0 h0 ends)
exceeds_kept case (Inline q0 h0 opening start start2) ends = ap (λ (b : Bool). is_through ends && b) (valve_kept case q0 h0 ends)
exceeds_kept case (Pump curve speed start start2) ends = refl
exceeds_kept case (Tank area start) ends = refl
exceeds_kept case (Vessel gas volume) ends = ap (λ (points : List (ℤ × ℤ)). is_outside points volume) (gas_kept case gas)

node_breaks_of : (case : Case) (n m : Node) (e f : List End) (number : ℕ) → n.kind ≡ m.kind → e ≡ f → breaks_node (renumbered case) n e number ≡ breaks_node case m f number
unfolding breaks_node renumbered
node_breaks_of case n m e f number k s = rw (s, k, exceeds_kept case m.kind f) refl

node_breaks_kept : (case : Case) (k number : ℕ) → breaks_node (renumbered case) (node_at (renumbered case) k) (node_ends (renumbered case) k) number ≡ breaks_node case (node_at case k) (node_ends case k) number
node_breaks_kept case k number = node_breaks_of case (node_at (renumbered case) k) (node_at case k) (node_ends (renumbered case) k) (node_ends case k) number (kind_kept case k) (ends_kept case k)

off_same : (case : Case) (at : ProbeAt) → is_off (renumbered case) at ≡ is_off case at
unfolding is_off
off_same case (OnPipe pipe place) = rw (divides_kept case pipe, reaches_kept case pipe) refl
off_same case (OnNode node) = refl

probe_breaks_kept : (case : Case) (q number : ℕ) → ((number == 16) && is_off (renumbered case) (probe_at (renumbered case) q).at) ≡ ((number == 16) && is_off case (probe_at case q).at)
probe_breaks_kept case q number = rw (at_kept case q, off_same case (probe_at case q).at) refl

-- the count of places
sum_same : (f : Pipe → ℕ) → ((p : Pipe) (line : ℕ) → f (record p { line = line }) ≡ f p) → (n line : ℕ) (ps : List Pipe) → sum_by f (take n (pipes_on line ps)) ≡ sum_by f (take n ps)
sum_same f s zero line ps = refl
sum_same f s (suc n) line [] = refl
sum_same f s (suc n) line (p ∷ ps) =
    omega (arith, sum_by-cons f (record p { line = line }) (take n (pipes_on (line + 1) ps)), sum_by-cons f p (take n ps), s p line, sum_same f s n (line + 1) ps)

base_kept : (case : Case) (p : ℕ) → place_base (renumbered case) p ≡ place_base case p
unfolding place_base renumbered
base_kept case p =
    omega (
      arith,
      nodes_length (first_part case.version + length case.tables) case.nodes,
      sum_same (λ (q : Pipe). reach_count case.dt q + 1) (λ q line. ap (λ (n : ℕ). n + 1) (reach_same case.dt q line)) p (first_part case.version + length case.tables + length case.nodes) case.pipes,
    )

pub count_pipes : (case : Case) → length (renumbered case).pipes ≡ length case.pipes
unfolding renumbered
count_pipes case = pipes_length (first_part case.version + length case.tables + length case.nodes) case.pipes

pub count_nodes : (case : Case) → length (renumbered case).nodes ≡ length case.nodes
unfolding renumbered
count_nodes case = nodes_length (first_part case.version + length case.tables) case.nodes

pub count_probes : (case : Case) → length (renumbered case).probes ≡ length case.probes
unfolding renumbered
count_probes case = probes_length (first_part case.version + length case.tables + length case.nodes + length case.pipes) case.probes

samples_kept : (case : Case) → sample_count (renumbered case) ≡ sample_count case
unfolding sample_count renumbered
samples_kept case = rw (probes_length (first_part case.version + length case.tables + length case.nodes + length case.pipes) case.probes) refl

size_kept : (case : Case) → is_too_large (renumbered case) ≡ is_too_large case
size_kept case = rw (count_pipes case, base_kept case (length case.pipes), samples_kept case) refl

-- a set of rules that holds none
above : (rules : ℕ → Rules) (n k : ℕ) → IsEmpty (any_below rules n) → k < n → IsEmpty (rules k)
unfolding any_below
above rules n k e h line number t =
    e line number (list_any_at (λ j. rules j line number) (range_with_len 0 n) k 0 (rw (length-range_with_len 0 n) h) (let s : get_or (range_with_len 0 n) k 0 ≡ k = get_or-range_with_len 0 n k 0 h ∙ omega arith in rw s t))

below : (rules : ℕ → Rules) (n : ℕ) → ((k : ℕ) → k < n → IsEmpty (rules k)) → IsEmpty (any_below rules n)
unfolding any_below
below rules n f line number t =
    let a = Any-from_list_any (λ j. rules j line number) (range_with_len 0 n) t in
    let l : a.0 < n = rw (length-range_with_len 0 n) at a.2 in
    let s : a.1 ≡ a.0 = sym a.3 ∙ get_or-range_with_len 0 n a.0 a.1 l ∙ omega arith in
    f a.1 (omega arith) line number a.4

pub moved : (l m : ℕ) (breaks others : ℕ → Bool) → ((n : ℕ) → others n ≡ breaks n) → IsEmpty (on_line l breaks) → IsEmpty (on_line m others)
moved l m breaks others s e line number t = e l number (and_from (l == l) (breaks number) (eq-eqb l l refl) (sym (s number) ∙ (and_parts (m == line) (others number) t).1))

pub left_empty : (a b : Rules) → IsEmpty (either a b) → IsEmpty a
left_empty a b e line number t = e line number (or_left (a line number) (b line number) t)

pub right_empty : (a b : Rules) → IsEmpty (either a b) → IsEmpty b
right_empty a b e line number t = e line number (or_right (a line number) (b line number) t)

pub both_empty : (a b : Rules) → IsEmpty a → IsEmpty b → IsEmpty (either a b)
both_empty a b e f line number t = elim (or_cases (a line number) (b line number) t) [
  | inl h ↦ e line number h
  | inr h ↦ f line number h
]

pub all_moved : (rules others : ℕ → Rules) (n m : ℕ) → m ≡ n → ((k : ℕ) → IsEmpty (rules k) → IsEmpty (others k)) → IsEmpty (any_below rules n) → IsEmpty (any_below others m)
all_moved rules others n m s f e = below others m (λ k l. f k (above rules n k e (omega arith)))

parts_empty : (case : Case) → IsEmpty (part_rules case) → IsEmpty (part_rules (renumbered case))
unfolding part_rules
parts_empty case e =
    let again = renumbered case in
    let ps = any_below (pipe_rules case) (length case.pipes) in
    let ns = any_below (node_rules case) (length case.nodes) in
    let qs = any_below (probe_rules case) (length case.probes) in
    both_empty (either (any_below (pipe_rules again) (length again.pipes)) (any_below (node_rules again) (length again.nodes))) (any_below (probe_rules again) (length again.probes))
    (both_empty (any_below (pipe_rules again) (length again.pipes)) (any_below (node_rules again) (length again.nodes))
    (all_moved (pipe_rules case) (pipe_rules again) (length case.pipes) (length again.pipes) (count_pipes case)
    (λ p. moved (pipe_at case p).line (pipe_at again p).line (breaks_pipe case.dt case.tolerance (pipe_at case p)) (breaks_pipe again.dt again.tolerance (pipe_at again p)) (pipe_breaks_kept case p))
    (left_empty ps ns (left_empty (either ps ns) qs e)))
    (all_moved (node_rules case) (node_rules again) (length case.nodes) (length again.nodes) (count_nodes case)
    (λ k. moved (node_at case k).line (node_at again k).line (breaks_node case (node_at case k) (node_ends case k)) (breaks_node again (node_at again k) (node_ends again k)) (node_breaks_kept case k))
    (right_empty ps ns (left_empty (either ps ns) qs e))))
    (all_moved (probe_rules case) (probe_rules again) (length case.probes) (length again.probes) (count_probes case)
    (λ q. moved (probe_at case q).line (probe_at again q).line (λ number. (number == 16) && is_off case (probe_at case q).at) (λ number. (number == 16) && is_off again (probe_at again q).at) (probe_breaks_kept case q))
    (right_empty (either ps ns) qs e))

size_empty : (case : Case) → IsEmpty (size_rules case) → IsEmpty (size_rules (renumbered case))
unfolding size_rules
size_empty case e = moved 0 0 (λ number. (number == 10) && is_too_large case) (λ number. (number == 10) && is_too_large (renumbered case)) (λ number. ap (λ (b : Bool). (number == 10) && b) (size_kept case)) e

pub division_empty : (case : Case) → AreEmpty (passes case) → AreEmpty (passes (renumbered case))
division_empty case e = (parts_empty case e.0, (size_empty case e.1.0, tt))

-- the mesh
pipe_mesh_same : (case : Case) (p : ℕ) → pipe_mesh (renumbered case) p ≡ pipe_mesh case p
unfolding pipe_mesh
pipe_mesh_same case p = rw (r_kept case p, b_kept case p, reaches_kept case p, base_kept case p) refl

same_map : {X : Type 0} (f g : ℕ → X) → ((k : ℕ) → f k ≡ g k) → (ks : List ℕ) → map f ks ≡ map g ks
same_map f g s [] = refl
same_map {X} f g s (k ∷ ks) = ap (λ (x : X). x ∷ map f ks) (s k) ∙ ap (λ (xs : List X). g k ∷ xs) (same_map f g s ks)

pub mesh_same : (case : Case) → mesh_of (renumbered case) ≡ mesh_of case
unfolding mesh_of
mesh_same case =
    let ps = same_map (pipe_mesh (renumbered case)) (pipe_mesh case) (pipe_mesh_same case) (range_with_len 0 (length case.pipes)) in
    let es = same_map (node_ends (renumbered case)) (node_ends case) (ends_kept case) (range_with_len 0 (length case.nodes)) in
    rw (count_pipes case, count_nodes case, ps, es, base_kept case (length case.pipes)) refl
