-- The mesh of a case without refusal is one in which rows can be computed, and its places are numbered.
use Rattle.std.proofs.Common.{◌≡◌, ◌<◌, ◌≤◌, ℕ, suc, zero, ◌+◌, ◌==◌, Bool, true, false, List, [], ◌∷◌, length, map, take, get_or, Option, Some, None, refl, ap, subst, sym, ◌∙◌, add-one, arith, eq-eqb}
use Rattle.std.proofs.lemmas.List.{ext_get_or}
use Rattle.std.proofs.lemmas.List.FromFn.{get_or-map-range_with_len, length-map-range_with_len, take-map-range_with_len, sum_by-map-range_with_len_more}
use Rattle.std.proofs.lemmas.List.Sums.{sum_by_more}
use Rattle.std.proofs.lemmas.List.Elements.{All-get_or}
use Rattle.std.specs.List.{list_any, AllByRecursion, cons_option, position_or_len, range_with_len, sum_by}
use Rattle.case_model.specs.declared.cases.Case.{Case}
use Rattle.case_model.specs.declared.cases.Pipe.{Pipe}
use Rattle.case_model.specs.declared.meshes.End.{End}
use Rattle.case_model.specs.declared.meshes.Mesh.{Mesh}
use Rattle.case_model.specs.declared.meshes.PipeMesh.{PipeMesh}
use Rattle.case_model.specs.Mesh.{IsMesh, IsNumbered, reaches, base_of, ends_of, end_node, is_end, places_before, no_pipe as no_pipe_mesh}
use Rattle.case_model.specs.Sets.{IsEmpty}
use Rattle.case_model.specs.Limits.{IsRead, IsJoined}
use Rattle.case_model.specs.Formulas.{reach_count}
use Rattle.case_model.specs.Parts.{pipe_at, no_pipe}
use Rattle.case_model.specs.Ends.{end_if, ends_at}
use Rattle.case_model.specs.Division.{divides, place_base, reaches_at, node_ends, AreEnds, pipe_mesh, mesh_of}
use Rattle.case_model.specs.Refusals.{part_rules}
use Rattle.reaches.proofs.Divided.{counted as has_count}
use Rattle.std.proofs.lemmas.Bool.{or_right}
use Rattle.case_model.proofs.Keeping.{all_divided}
use Rattle.case_model.proofs.ListFacts.{passes}

-- the ends of a node are those of pipes
if_all : (P : End → Type 0) (b : Bool) (index : ℕ) (last : Bool) (xs : List End) → P (record { pipe = index; at_last = last }) → AllByRecursion P xs → AllByRecursion P (cons_option (end_if b index last) xs)
if_all P true index last xs p h = (p, h)
if_all P false index last xs p h = h

ends_few : (k index n : ℕ) (ps : List Pipe) → index + length ps ≤ n → AllByRecursion (λ e. e.pipe < n) (ends_at k index ps)
ends_few k index n [] h = tt
ends_few k index n (p ∷ ps) h = if_all (λ e. e.pipe < n) (p.first == k) index false (cons_option (end_if (p.last == k) index true) (ends_at k (index + 1) ps)) (omega arith)
    (if_all (λ e. e.pipe < n) (p.last == k) index true (ends_at k (index + 1) ps) (omega arith) (ends_few k (index + 1) n ps (omega arith)))

-- a pipe's ends are among those of its nodes
end_first : (p index : ℕ) (b : Bool) (xs : List End) → b ≡ true → index ≡ p → list_any (is_end p false) (cons_option (end_if b index false) xs) ≡ true
end_first p index b xs h e = rw h (rw (e, eq-eqb p p refl) refl)

end_last : (p index : ℕ) (b : Bool) (xs : List End) → b ≡ true → index ≡ p → list_any (is_end p true) (cons_option (end_if b index true) xs) ≡ true
end_last p index b xs h e = rw h (rw (e, eq-eqb p p refl) refl)

any_behind : (q : End → Bool) (o : Option End) (xs : List End) → list_any q xs ≡ true → list_any q (cons_option o xs) ≡ true
any_behind q None xs h = h
any_behind q (Some x) xs h = or_right (q x) (list_any q xs) h

first_found : (k p index : ℕ) (ps : List Pipe) (j : ℕ) (d : Pipe) → j < length ps → index + j ≡ p → (get_or ps j d).first ≡ k → list_any (is_end p false) (ends_at k index ps) ≡ true
first_found k p index [] j d l e h = absurd (omega arith)
first_found k p index (x ∷ ps) zero d l e h = end_first p index (x.first == k) (cons_option (end_if (x.last == k) index true) (ends_at k (index + 1) ps)) (eq-eqb x.first k h) (omega arith)
first_found k p index (x ∷ ps) (suc j) d l e h = any_behind (is_end p false) (end_if (x.first == k) index false) (cons_option (end_if (x.last == k) index true) (ends_at k (index + 1) ps)) (any_behind (is_end p false) (end_if (x.last == k) index true) (ends_at k (index + 1) ps) (first_found k p (index + 1) ps j d (omega arith) (omega arith) h))

last_found : (k p index : ℕ) (ps : List Pipe) (j : ℕ) (d : Pipe) → j < length ps → index + j ≡ p → (get_or ps j d).last ≡ k → list_any (is_end p true) (ends_at k index ps) ≡ true
last_found k p index [] j d l e h = absurd (omega arith)
last_found k p index (x ∷ ps) zero d l e h = any_behind (is_end p true) (end_if (x.first == k) index false) (cons_option (end_if (x.last == k) index true) (ends_at k (index + 1) ps)) (end_last p index (x.last == k) (ends_at k (index + 1) ps) (eq-eqb x.last k h) (omega arith))
last_found k p index (x ∷ ps) (suc j) d l e h = any_behind (is_end p true) (end_if (x.first == k) index false) (cons_option (end_if (x.last == k) index true) (ends_at k (index + 1) ps)) (any_behind (is_end p true) (end_if (x.last == k) index true) (ends_at k (index + 1) ps) (last_found k p (index + 1) ps j d (omega arith) (omega arith) h))

ends_number : (case : Case) → length (mesh_of case).ends ≡ length case.nodes
unfolding mesh_of
ends_number case = length-map-range_with_len (node_ends case) 0 (length case.nodes)

pub pipes_number : (case : Case) → length (mesh_of case).pipes ≡ length case.pipes
unfolding mesh_of
pipes_number case = length-map-range_with_len (pipe_mesh case) 0 (length case.pipes)

ends_good : (case : Case) (k : ℕ) → k < length case.nodes → AllByRecursion (λ e. e.pipe < length (mesh_of case).pipes) (ends_of (mesh_of case) k)
unfolding mesh_of
ends_good case k h =
    rw (get_or-map-range_with_len (node_ends case) 0 (length case.nodes) k k [] h (omega arith), pipes_number case)
    (ends_few k 0 (length case.pipes) case.pipes (omega arith))

reaches_of : (case : Case) (p : ℕ) → p < length case.pipes → reaches (mesh_of case) p ≡ reaches_at case p
unfolding mesh_of pipe_mesh
reaches_of case p h = ap (λ (m : PipeMesh). m.reaches) (get_or-map-range_with_len (pipe_mesh case) 0 (length case.pipes) p p no_pipe_mesh h (omega arith))

base_is : (case : Case) (p : ℕ) → p < length case.pipes → base_of (mesh_of case) p ≡ place_base case p
unfolding mesh_of pipe_mesh
base_is case p h = ap (λ (m : PipeMesh). m.base) (get_or-map-range_with_len (pipe_mesh case) 0 (length case.pipes) p p no_pipe_mesh h (omega arith))

-- each end of a pipe stands at a node
found_at : (case : Case) (p k : ℕ) (last : Bool) → k < length case.nodes → list_any (is_end p last) (node_ends case k) ≡ true → end_node (mesh_of case) p last < length case.nodes
unfolding mesh_of
found_at case p k last f h =
    let e : length (map (node_ends case) (range_with_len 0 (length case.nodes))) ≡ length case.nodes = length-map-range_with_len (node_ends case) 0 (length case.nodes) in
    let t : list_any (is_end p last) (get_or (map (node_ends case) (range_with_len 0 (length case.nodes))) k []) ≡ true =
    rw (get_or-map-range_with_len (node_ends case) 0 (length case.nodes) k k [] f (omega arith)) h in
    subst (λ n. position_or_len (list_any (is_end p last)) (map (node_ends case) (range_with_len 0 (length case.nodes))) < n) e
    (passes (list_any (is_end p last)) (map (node_ends case) (range_with_len 0 (length case.nodes))) k [] (omega arith) t)

joined : (case : Case) → IsRead case → (p : ℕ) → p < length case.pipes → IsJoined (length case.nodes) (pipe_at case p)
joined case read p h = All-get_or (IsJoined (length case.nodes)) case.pipes p no_pipe h read.joins

found : (case : Case) → IsRead case → (p : ℕ) → p < length case.pipes → (last : Bool) → end_node (mesh_of case) p last < length case.nodes
found case read p h true = found_at case p (pipe_at case p).last true ((joined case read p h).last) (last_found (pipe_at case p).last p 0 case.pipes p no_pipe h (omega arith) refl)
found case read p h false = found_at case p (pipe_at case p).first false ((joined case read p h).first) (first_found (pipe_at case p).first p 0 case.pipes p no_pipe h (omega arith) refl)

counted : (case : Case) (p : ℕ) → divides case p ≡ true → (2 ≤ reaches_at case p) × (reaches_at case p ≤ 65_536)
unfolding divides
counted case p d = let a = has_count case.dt case.tolerance (pipe_at case p) d in (a.some, a.few)

pub mesh_good : (case : Case) → IsRead case → IsEmpty (part_rules case) → IsMesh (mesh_of case)
mesh_good case read empty =
    let n = ends_number case in
    let m = pipes_number case in
    record {
      pipes = λ k h. ends_good case k (omega (arith, n));
      long = λ p h. let l : p < length case.pipes = omega (arith, m) in rw (reaches_of case p l) ((counted case p (all_divided case empty p l)).0);
      small = λ p h. let l : p < length case.pipes = omega (arith, m) in rw (reaches_of case p l) (let few = (counted case p (all_divided case empty p l)).1 in omega arith);
      found = λ p last h. rw n (found case read p (omega (arith, m)) last);
    }

-- how many places a pipe has
abbrev places_of : PipeMesh → ℕ
places_of pipe = pipe.reaches + 1

places_sum : (case : Case) (p : ℕ) → p ≤ length case.pipes → sum_by places_of (map (pipe_mesh case) (range_with_len 0 p)) ≡ sum_by (λ q. reach_count case.dt q + 1) (take p case.pipes)
unfolding pipe_mesh
places_sum case zero h = refl
places_sum case (suc p) h =
    subst (λ (n : ℕ). sum_by places_of (map (pipe_mesh case) (range_with_len 0 n)) ≡ sum_by (λ q. reach_count case.dt q + 1) (take n case.pipes)) (add-one p)
    (sum_by-map-range_with_len_more places_of (pipe_mesh case) 0 p p (omega arith)
    ∙ ap (λ (n : ℕ). n + (reaches_at case p + 1)) (places_sum case p (omega arith)) ∙ sym (sum_by_more (λ q. reach_count case.dt q + 1) case.pipes p no_pipe (omega arith)))

before_is : (case : Case) (p : ℕ) → p ≤ length case.pipes → places_before (mesh_of case) p ≡ place_base case p
unfolding mesh_of place_base
before_is case p h =
    let n = ends_number case in
    let t = take-map-range_with_len (pipe_mesh case) 0 (length case.pipes) p h in
    let s : sum_by places_of (take p (mesh_of case).pipes) ≡ sum_by (λ q. reach_count case.dt q + 1) (take p case.pipes) = ap (sum_by places_of) t ∙ places_sum case p h in
    omega (arith, n, s)

pub mesh_numbered : (case : Case) → IsNumbered (mesh_of case)
unfolding mesh_of
mesh_numbered case = record {
  bases = λ p h. let m = pipes_number case in let l : p < length case.pipes = omega (arith, m) in base_is case p l ∙ sym (before_is case p (omega arith));
  all = sym (ap (places_before (mesh_of case)) (pipes_number case) ∙ before_is case (length case.pipes) (omega arith));
}

-- the mesh from its parts
pub mesh_whole : (case : Case) (pipes : List PipeMesh) (ends : List (List End)) (places : ℕ) → pipes ≡ map (pipe_mesh case) (range_with_len 0 (length case.pipes)) → AreEnds case ends → places ≡ place_base case (length case.pipes)
    → ◌≡◌ {A = Mesh} (record { pipes = pipes; ends = ends; places = places }) (mesh_of case)
unfolding mesh_of
mesh_whole case pipes ends places e f g =
    let n = length-map-range_with_len (node_ends case) 0 (length case.nodes) in
    let h : ends ≡ map (node_ends case) (range_with_len 0 (length case.nodes)) =
    ext_get_or [] ends (map (node_ends case) (range_with_len 0 (length case.nodes))) (f.each ∙ sym n)
    (λ k l. let m : k < length case.nodes = let x = f.each in omega arith in f.found k m ∙ sym (get_or-map-range_with_len (node_ends case) 0 (length case.nodes) k k [] m (omega arith))) in
    rw (e, h, g) refl
