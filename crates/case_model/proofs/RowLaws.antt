use Rattle.std.specs.Prelude.{◌≡◌, ℕ, zero, suc, ◌+◌, ◌-◌, ◌<◌, ◌≤◌, Bool, true, false, cond, eqb, List, [], ◌∷◌, ◌++◌, length, map, get_or, refl}
use Rattle.std.specs.List.{All, AllByRecursion, range_with_len}
use Rattle.std.proofs.Common.{◌∙◌, ap, sym, add-one, arith}
use Rattle.std.proofs.lemmas.Bool.{eq-eqb, ne_eqb}
use Rattle.std.proofs.lemmas.List.{get_or-map, length-map}
use Rattle.std.proofs.lemmas.List.Elements.{All-map, recursion_from_All}
use Rattle.std.proofs.lemmas.List.FromFn.{fill_by_all, get_or-map-range_with_len, length-map-range_with_len, map-range_with_len_more}
use Rattle.case_model.specs.declared.meshes.End.{End}
use Rattle.case_model.specs.declared.meshes.Mesh.{Mesh}
use Rattle.case_model.specs.declared.points.Point.{Point}
use Rattle.case_model.specs.declared.points.Point.TheVariants.{Bad}
use Rattle.case_model.specs.declared.states.NodeState.{NodeState}
use Rattle.case_model.specs.Meaning.{Meaning, IsMeaning}
use Rattle.case_model.specs.Mesh.{reaches, ends_of, next_to, end_node, end_index}
use Rattle.case_model.specs.Range.{IsPoint, IsState}
use Rattle.case_model.specs.Rows.{Row, near, node_ends, end_point, next, row, points, states, all_points, all_ends}

-- ---- from one row to the next

pub row-start : (law : Meaning) → row law 0 ≡ record { state = law.start_node; point = law.start_point }
unfolding row
row-start law = refl

pub row-next : (law : Meaning) (s : ℕ) → row law (s + 1) ≡ next law (s + 1) (row law s)
unfolding row
row-next law s = rw add-one refl

pub state-next : (law : Meaning) (s k : ℕ) → (row law (s + 1)).state k ≡ law.node k (s + 1) ((row law s).state k) (near law.mesh (row law s) k)
unfolding next
state-next law s k = ap (λ (r : Row). r.state k) (row-next law s)

pub point-first : (law : Meaning) (s p : ℕ) → ((row law (s + 1)).point p 0) ≡ end_point law (s + 1) (row law s) p false
unfolding next
point-first law s p = ap (λ (r : Row). (r.point p 0)) (row-next law s)

pub point-last : (law : Meaning) (s p i : ℕ) → 0 < i → i ≡ reaches law.mesh p → ((row law (s + 1)).point p i) ≡ end_point law (s + 1) (row law s) p true
unfolding next
point-last law s p i h e =
    ap (λ (r : Row). (r.point p i)) (row-next law s) ∙ rw (ne_eqb i 0 (omega arith), eq-eqb i (reaches law.mesh p) e) refl

pub point-inside : (law : Meaning) (s p i : ℕ) → 0 < i → i < reaches law.mesh p → ((row law (s + 1)).point p i) ≡ law.inner p i ((row law s).point p (i - 1)) ((row law s).point p i) ((row law s).point p (i + 1))
unfolding next
point-inside law s p i h b =
    ap (λ (r : Row). (r.point p i)) (row-next law s) ∙ rw (ne_eqb i 0 (omega arith), ne_eqb i (reaches law.mesh p) (omega arith)) refl

-- ---- the points of a pipe

pub length-points : (law : Meaning) (s p : ℕ) → length (points law s p) ≡ reaches law.mesh p + 1
unfolding points
length-points law s p = length-map-range_with_len ((row law s).point p) 0 (reaches law.mesh p + 1)

pub point-at : (law : Meaning) (s p i : ℕ) (d : Point) → i ≤ reaches law.mesh p → get_or (points law s p) i d ≡ ((row law s).point p i)
unfolding points
point-at law s p i d h = get_or-map-range_with_len ((row law s).point p) 0 (reaches law.mesh p + 1) i i d (omega arith) (omega arith)

pub points-from : (law : Meaning) (s p : ℕ) (xs : List Point) (d : Point) → length xs ≡ reaches law.mesh p + 1 → ((i : ℕ) → i < reaches law.mesh p + 1 → get_or xs i d ≡ ((row law s).point p i)) → xs ≡ points law s p
unfolding points
points-from law s p xs d l h = fill_by_all ((row law s).point p) xs (reaches law.mesh p + 1) d l h

-- ---- the states of the nodes

pub length-states : (law : Meaning) (s : ℕ) → length (states law s) ≡ length law.mesh.ends
unfolding states
length-states law s = length-map-range_with_len (row law s).state 0 (length law.mesh.ends)

pub state-at : (law : Meaning) (s k : ℕ) (d : NodeState) → k < length law.mesh.ends → get_or (states law s) k d ≡ (row law s).state k
unfolding states
state-at law s k d h = get_or-map-range_with_len (row law s).state 0 (length law.mesh.ends) k k d h (omega arith)

pub states-from : (law : Meaning) (s : ℕ) (xs : List NodeState) (d : NodeState) → length xs ≡ length law.mesh.ends → ((k : ℕ) → k < length law.mesh.ends → get_or xs k d ≡ (row law s).state k) → xs ≡ states law s
unfolding states
states-from law s xs d l h = fill_by_all (row law s).state xs (length law.mesh.ends) d l h

-- ---- the points of all pipes

pub length-all_points : (law : Meaning) (s : ℕ) → length (all_points law s) ≡ length law.mesh.pipes
unfolding all_points
length-all_points law s = length-map-range_with_len (points law s) 0 (length law.mesh.pipes)

pub pipe-at : (law : Meaning) (s p : ℕ) (d : List Point) → p < length law.mesh.pipes → get_or (all_points law s) p d ≡ points law s p
unfolding all_points
pipe-at law s p d h = get_or-map-range_with_len (points law s) 0 (length law.mesh.pipes) p p d h (omega arith)

pub all_points-from : (law : Meaning) (s : ℕ) (xs : List (List Point)) (d : List Point) → length xs ≡ length law.mesh.pipes → ((p : ℕ) → p < length law.mesh.pipes → get_or xs p d ≡ points law s p) → xs ≡ all_points law s
unfolding all_points
all_points-from law s xs d l h = fill_by_all (points law s) xs (length law.mesh.pipes) d l h

-- ---- the ends of all nodes

pub length-all_ends : (law : Meaning) (s : ℕ) → length (all_ends law s) ≡ length law.mesh.ends
unfolding all_ends
length-all_ends law s = length-map-range_with_len (node_ends law (s + 1) (row law s)) 0 (length law.mesh.ends)

pub end-is : (law : Meaning) (s k : ℕ) (d : List Point) → k < length law.mesh.ends → get_or (all_ends law s) k d ≡ node_ends law (s + 1) (row law s) k
unfolding all_ends
end-is law s k d h = get_or-map-range_with_len (node_ends law (s + 1) (row law s)) 0 (length law.mesh.ends) k k d h (omega arith)

pub all_ends-from : (law : Meaning) (s : ℕ) (xs : List (List Point)) (d : List Point) → length xs ≡ length law.mesh.ends → ((k : ℕ) → k < length law.mesh.ends → get_or xs k d ≡ node_ends law (s + 1) (row law s) k) → xs ≡ all_ends law s
unfolding all_ends
all_ends-from law s xs d l h = fill_by_all (node_ends law (s + 1) (row law s)) xs (length law.mesh.ends) d l h

-- ---- the points beside a node

pub length-near : (mesh : Mesh) (r : Row) (k : ℕ) → length (near mesh r k) ≡ length (ends_of mesh k)
unfolding near
length-near mesh r k = length-map (ends_of mesh k) (λ (e : End). (r.point e.pipe (next_to mesh e)))

pub near-at : (mesh : Mesh) (r : Row) (k j : ℕ) (d : Point) (e : End) → j < length (ends_of mesh k) → get_or (near mesh r k) j d ≡ (r.point (get_or (ends_of mesh k) j e).pipe (next_to mesh (get_or (ends_of mesh k) j e)))
unfolding near
near-at mesh r k j d e h = get_or-map (λ (e : End). (r.point e.pipe (next_to mesh e))) (ends_of mesh k) j e d h

-- one more item of a list that is made index by index
pub listed_more : {X : Type 0} (f : ℕ → X) (n : ℕ) (xs ys : List X) (x : X) → xs ≡ map f (range_with_len 0 n) → ys ≡ xs ++ x ∷ [] → x ≡ f n → ys ≡ map f (range_with_len 0 (n + 1))
listed_more f n xs ys x h e i =
    e ∙ ap (λ l. l ++ x ∷ []) h ∙ ap (λ y. map f (range_with_len 0 n) ++ y ∷ []) i ∙ sym (map-range_with_len_more f 0 n n (omega arith))

-- ---- all that a law in range makes is in range

-- every state and point of a row is in range
pub record IsRow (r : Row) : Type 0 where
  pub states : (k : ℕ) → IsState (r.state k)
  pub points : (p i : ℕ) → IsPoint (r.point p i)

pub near-good : (mesh : Mesh) (r : Row) (k : ℕ) → IsRow r → All IsPoint (near mesh r k)
unfolding near
near-good mesh r k good = All-map IsPoint (λ (e : End). (r.point e.pipe (next_to mesh e))) (ends_of mesh k) (λ j d h. good.points _ _)

pub node_ends-good : (law : Meaning) (s : ℕ) (r : Row) (k : ℕ) → IsMeaning law → IsRow r → All IsPoint (node_ends law s r k)
unfolding node_ends
node_ends-good law s r k m good = m.ends k s (r.state k) (near law.mesh r k) (good.states k) (near-good law.mesh r k good)

at_or_bad : (xs : List Point) (i : ℕ) → AllByRecursion IsPoint xs → IsPoint (get_or xs i Bad)
at_or_bad [] i h = tt
at_or_bad (x ∷ xs) zero h = h.0
at_or_bad (x ∷ xs) (suc i) h = at_or_bad xs i h.1

pub end_point-good : (law : Meaning) (s : ℕ) (r : Row) (p : ℕ) (last : Bool) → IsMeaning law → IsRow r → IsPoint (end_point law s r p last)
unfolding end_point
end_point-good law s r p last m good =
    let xs = node_ends law s r (end_node law.mesh p last) in
    at_or_bad xs (end_index law.mesh p last) (recursion_from_All IsPoint xs (node_ends-good law s r (end_node law.mesh p last) m good))

one_of : (a b : Bool) (x y z : Point) → IsPoint x → IsPoint y → IsPoint z → IsPoint (cond a x (cond b y z))
one_of true b x y z h i j = h
one_of false true x y z h i j = i
one_of false false x y z h i j = j

pub next-good : (law : Meaning) (s : ℕ) (r : Row) → IsMeaning law → IsRow r → IsRow (next law s r)
unfolding next
next-good law s r m good = record {
  states = λ k. m.node k s (r.state k) (near law.mesh r k) (good.states k) (near-good law.mesh r k good);
  points = λ p i.
      one_of (eqb i 0) (eqb i (reaches law.mesh p)) _ _ _ (end_point-good law s r p false m good) (end_point-good law s r p true m good) (m.inner p i (r.point p (i - 1)) (r.point p i) (r.point p (i + 1)) (good.points p (i - 1)) (good.points p i) (good.points p (i + 1)));
}

pub row-good : (law : Meaning) → IsMeaning law → (s : ℕ) → IsRow (row law s)
unfolding row
row-good law m zero = record { states = m.start_node; points = m.start_point }
row-good law m (suc s) = next-good law (suc s) (row law s) m (row-good law m s)

pub points-good : (law : Meaning) → IsMeaning law → (s p : ℕ) → All IsPoint (points law s p)
unfolding points
points-good law m s p = All-map IsPoint ((row law s).point p) (range_with_len 0 (reaches law.mesh p + 1)) (λ j d h. (row-good law m s).points p _)

pub states-good : (law : Meaning) → IsMeaning law → (s : ℕ) → All IsState (states law s)
unfolding states
states-good law m s = All-map IsState (row law s).state (range_with_len 0 (length law.mesh.ends)) (λ j d h. (row-good law m s).states _)
