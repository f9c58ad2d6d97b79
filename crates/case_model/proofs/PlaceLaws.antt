use Rattle.std.specs.Prelude.{◌≡◌, ℕ, zero, suc, ◌+◌, ◌<◌, ◌≤◌, Bool, false, List, [], ◌∷◌, ◌++◌, length, map, take, get_or, sum_by, refl}
use Rattle.std.specs.List.{flat_map, range_with_len}
use Rattle.std.proofs.Common.{◌∙◌, ap, subst, sym, add-one, zero-add, arith}
use Rattle.std.proofs.lemmas.List.{append-nil, get_or-append-add, get_or_append_left, get_or-map, length-append, length-map, map-id, take_more}
use Rattle.std.proofs.lemmas.List.Concat.{flat_map-append, get_or-flat_map}
use Rattle.std.proofs.lemmas.List.Sums.{sum_by_push}
use Rattle.std.proofs.lemmas.List.FromFn.{get_or-range_with_len, length-range_with_len, map-range_with_len_more, take-map-range_with_len}
use Rattle.case_model.specs.declared.meshes.Mesh.{Mesh}
use Rattle.case_model.specs.declared.meshes.PipeMesh.{PipeMesh}
use Rattle.case_model.specs.declared.points.Point.TheVariants.{Bad}
use Rattle.case_model.specs.declared.states.NodeState.TheVariants.{Bad as BadState}
use Rattle.case_model.specs.Meaning.{Meaning}
use Rattle.case_model.specs.Mesh.{no_pipe, reaches, base_of, places_before, IsNumbered}
use Rattle.case_model.specs.Places.{is_bad, is_bad_state, bad_places}
use Rattle.case_model.proofs.RowLaws.{length-points, length-states, point-at, state-at}
use Rattle.case_model.specs.Rows.{row, points, states}

-- which places of pipe p are Bad
abbrev bad_points : Meaning → ℕ → ℕ → List Bool
bad_points law s p = map is_bad (points law s p)

length-bad_points : (law : Meaning) (s p : ℕ) → length (bad_points law s p) ≡ reaches law.mesh p + 1
length-bad_points law s p = length-map (points law s p) is_bad ∙ length-points law s p

-- one number more
pub range_more : (n : ℕ) → range_with_len 0 (n + 1) ≡ range_with_len 0 n ++ n ∷ []
range_more n =
    sym (map-id (range_with_len 0 (n + 1))) ∙ map-range_with_len_more (λ x. x) 0 n n (omega arith) ∙ ap (λ l. l ++ n ∷ []) (map-id (range_with_len 0 n))

-- the first n numbers are those of all numbers that are below n
take-range : (n m : ℕ) → n ≤ m → take n (range_with_len 0 m) ≡ range_with_len 0 n
take-range n m h =
    ap (take n) (sym (map-id (range_with_len 0 m))) ∙ take-map-range_with_len (λ x. x) 0 m n h ∙ map-id (range_with_len 0 n)

-- as many places as the pipes before number n have
abbrev places_of : Mesh → ℕ → ℕ
places_of mesh n = sum_by (λ (pipe : PipeMesh). pipe.reaches + 1) (take n mesh.pipes)

places_of-more : (mesh : Mesh) (n : ℕ) → n < length mesh.pipes → places_of mesh (n + 1) ≡ places_of mesh n + (reaches mesh n + 1)
places_of-more mesh n h =
    ap (sum_by (λ (pipe : PipeMesh). pipe.reaches + 1)) (take_more mesh.pipes n no_pipe h) ∙ sum_by_push (λ (pipe : PipeMesh). pipe.reaches + 1) (take n mesh.pipes) (get_or mesh.pipes n no_pipe)

length-more : (law : Meaning) (s n : ℕ) → length (flat_map (bad_points law s) (range_with_len 0 (n + 1))) ≡ length (flat_map (bad_points law s) (range_with_len 0 n)) + (reaches law.mesh n + 1)
length-more law s n =
    let f : ℕ → List Bool = bad_points law s in
    ap (λ r. length (flat_map f r)) (range_more n)
    ∙ ap length (flat_map-append f (range_with_len 0 n) (n ∷ []))
    ∙ length-append (flat_map f (range_with_len 0 n)) (f n ++ [])
    ∙ ap (λ k. length (flat_map f (range_with_len 0 n)) + k) (ap length (append-nil (f n)) ∙ length-bad_points law s n)

length-pipes : (law : Meaning) (s n : ℕ) → n ≤ length law.mesh.pipes → length (flat_map (bad_points law s) (range_with_len 0 n)) ≡ places_of law.mesh n
length-pipes law s zero h = refl
length-pipes law s (suc n) h =
    let here : length (flat_map (bad_points law s) (range_with_len 0 n)) ≡ places_of law.mesh n = length-pipes law s n (omega arith) in
    let P : ℕ → Type 0 = λ m. length (flat_map (bad_points law s) (range_with_len 0 m)) ≡ places_of law.mesh m in
    subst P (add-one n) (length-more law s n ∙ ap (λ k. k + (reaches law.mesh n + 1)) here ∙ sym (places_of-more law.mesh n (omega arith)))

-- ---- the laws

pub bad-at_node : (law : Meaning) (s k : ℕ) → k < length law.mesh.ends → get_or (bad_places law s) k false ≡ is_bad_state ((row law s).state k)
unfolding bad_places
bad-at_node law s k h =
    let l : length (states law s) ≡ length law.mesh.ends = length-states law s in
    get_or_append_left (map is_bad_state (states law s)) _ false k (omega (arith, length-map (states law s) is_bad_state))
    ∙ get_or-map is_bad_state (states law s) k BadState false (omega arith)
    ∙ ap is_bad_state (state-at law s k BadState h)

place_sum : (base ends before nodes done i : ℕ) → base ≡ ends + before → nodes ≡ ends → done ≡ before → base + i ≡ nodes + (done + i)
place_sum base ends before nodes done i b n d = omega arith

pub bad-at_place : (law : Meaning) (s p i : ℕ) → IsNumbered law.mesh → p < length law.mesh.pipes → i ≤ reaches law.mesh p → get_or (bad_places law s) (base_of law.mesh p + i) false ≡ is_bad ((row law s).point p i)
unfolding bad_places
bad-at_place law s p i numbered h b =
    let f : ℕ → List Bool = bad_points law s in
    let all : List ℕ = range_with_len 0 (length law.mesh.pipes) in
    let nodes : List Bool = map is_bad_state (states law s) in
    let count : length nodes ≡ length law.mesh.ends = length-map (states law s) is_bad_state ∙ length-states law s in
    let here : get_or all p 0 ≡ p = get_or-range_with_len 0 (length law.mesh.pipes) p 0 h ∙ zero-add p in
    let before : length (flat_map f (take p all)) ≡ places_of law.mesh p =
    ap (λ r. length (flat_map f r)) (take-range p (length law.mesh.pipes) (omega arith)) ∙ length-pipes law s p (omega arith) in
    let base : base_of law.mesh p ≡ places_before law.mesh p = numbered.bases p h in
    let inside : i < length (f (get_or all p 0)) = rw here (let l : length (f p) ≡ reaches law.mesh p + 1 = length-bad_points law s p in omega arith) in
    ap (λ k. get_or (nodes ++ flat_map f all) k false) (place_sum (base_of law.mesh p) (length law.mesh.ends) (places_of law.mesh p) (length nodes) (length (flat_map f (take p all))) i base count before)
    ∙ get_or-append-add nodes (flat_map f all) (length (flat_map f (take p all)) + i) false
    ∙ get_or-flat_map f all p i 0 false (let l : length all ≡ length law.mesh.pipes = length-range_with_len 0 (length law.mesh.pipes) in omega arith) inside
    ∙ ap (λ q. get_or (f q) i false) here
    ∙ get_or-map is_bad (points law s p) i Bad false (let l : length (points law s p) ≡ reaches law.mesh p + 1 = length-points law s p in omega arith)
    ∙ ap is_bad (point-at law s p i Bad b)

pub length-places : (law : Meaning) (s : ℕ) → length (bad_places law s) ≡ places_before law.mesh (length law.mesh.pipes)
unfolding bad_places
length-places law s =
    let f : ℕ → List Bool = bad_points law s in
    let all : List ℕ = range_with_len 0 (length law.mesh.pipes) in
    let nodes : List Bool = map is_bad_state (states law s) in
    length-append nodes (flat_map f all)
    ∙ ap (λ k. k + length (flat_map f all)) (length-map (states law s) is_bad_state ∙ length-states law s)
    ∙ ap (λ k. length law.mesh.ends + k) (length-pipes law s (length law.mesh.pipes) (omega arith))

pub length-bad_places : (law : Meaning) (s : ℕ) → IsNumbered law.mesh → length (bad_places law s) ≡ law.mesh.places
length-bad_places law s numbered = length-places law s ∙ sym numbered.all
