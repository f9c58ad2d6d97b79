-- What the next row has at a spot depends on what is read for it alone.
use Rattle.std.proofs.Common.{◌≡◌, ℕ, ◌+◌, ◌-◌, ◌<◌, ◌≤◌, inl, inr, Bool, true, false, List, length, refl, ap, subst, sym, ◌∙◌, eq-eqb, arith}
use Rattle.std.specs.Prelude.{slice_index_or}
use Rattle.std.proofs.lemmas.Bool.{cases_lt, ne_eqb}
use Rattle.std.proofs.lemmas.List.{ext_get_or}
use Rattle.case_model.specs.declared.meshes.Mesh.{Mesh}
use Rattle.case_model.specs.declared.points.Point.{Point}
use Rattle.case_model.specs.declared.points.Point.TheVariants.{Bad}
use Rattle.case_model.specs.declared.states.NodeState.{NodeState}
use Rattle.case_model.specs.Meaning.{Meaning}
use Rattle.case_model.specs.Mesh.{reaches, ends_of, next_to, end_node, end_index}
use Rattle.case_model.proofs.RowLaws.{length-near, near-at}
use Rattle.case_model.specs.Rows.{Row, near, node_ends, end_point, next}
use Rattle.regions.specs.declared.shapes.Spot.{Spot}
use Rattle.regions.specs.declared.shapes.Spot.TheVariants.{AtNode, Inside}
use Rattle.regions.specs.Needs.{Reads, home_of, AgreeAt, AgreeOnReads, AgreeAfter}
use Rattle.regions.specs.Regions.{HasSpot}
use Rattle.case_model.specs.Joints.{no_end}
use Rattle.regions.specs.Sides.{end_at}

-- ---- a node, with all its ends

near-agree : (mesh : Mesh) (one other : Row) (k : ℕ) → ((spot : Spot) → Reads mesh (AtNode k) spot → AgreeAt one other spot) → near mesh one k ≡ near mesh other k
near-agree mesh one other k agree =
    let n = length-near mesh one k in
    ext_get_or Bad (near mesh one k) (near mesh other k) (n ∙ sym (length-near mesh other k)) (λ c h.
    let b : c < length (ends_of mesh k) = omega arith in
    let e = end_at mesh k c in
    near-at mesh one k c Bad no_end b ∙ agree (Inside e.pipe (next_to mesh e)) (c, b, refl, refl) ∙ sym (near-at mesh other k c Bad no_end b))

pub node_ends-agree : (law : Meaning) (s k : ℕ) (one other : Row) → AgreeOnReads law.mesh one other (AtNode k) → node_ends law s one k ≡ node_ends law s other k
unfolding node_ends
node_ends-agree law s k one other agree =
    ap (λ (x : NodeState). law.ends k s x (near law.mesh one k)) (agree (AtNode k) refl)
    ∙ ap (λ (xs : List Point). law.ends k s (other.state k) xs) (near-agree law.mesh one other k agree)

state-agrees : (law : Meaning) (s k : ℕ) (one other : Row) → AgreeOnReads law.mesh one other (AtNode k) → (next law s one).state k ≡ (next law s other).state k
unfolding next
state-agrees law s k one other agree =
    ap (λ (x : NodeState). law.node k s x (near law.mesh one k)) (agree (AtNode k) refl)
    ∙ ap (λ (xs : List Point). law.node k s (other.state k) xs) (near-agree law.mesh one other k agree)

end-agrees : (law : Meaning) (s p : ℕ) (last : Bool) (one other : Row) → AgreeOnReads law.mesh one other (AtNode (end_node law.mesh p last)) → end_point law s one p last ≡ end_point law s other p last
unfolding end_point
end-agrees law s p last one other agree =
    ap (λ (xs : List Point). slice_index_or xs (end_index law.mesh p last) Bad) (node_ends-agree law s (end_node law.mesh p last) one other agree)

-- ---- a place

first-is : (law : Meaning) (s p i : ℕ) (r : Row) → i ≡ 0 → ((next law s r).point p i) ≡ end_point law s r p false
unfolding next
first-is law s p i r e = rw (eq-eqb i 0 e) refl

last-is : (law : Meaning) (s p i : ℕ) (r : Row) → 0 < i → i ≡ reaches law.mesh p → ((next law s r).point p i) ≡ end_point law s r p true
unfolding next
last-is law s p i r h e = rw (ne_eqb i 0 (omega arith), eq-eqb i (reaches law.mesh p) e) refl

inner-is : (law : Meaning) (s p i : ℕ) (r : Row) → 0 < i → i < reaches law.mesh p → ((next law s r).point p i) ≡ law.inner p i (r.point p (i - 1)) (r.point p i) (r.point p (i + 1))
unfolding next
inner-is law s p i r h b = rw (ne_eqb i 0 (omega arith), ne_eqb i (reaches law.mesh p) (omega arith)) refl

home-first : (mesh : Mesh) (p i : ℕ) → i ≡ 0 → home_of mesh (Inside p i) ≡ AtNode (end_node mesh p false)
home-first mesh p i e = rw (eq-eqb i 0 e) refl

home-last : (mesh : Mesh) (p i : ℕ) → 0 < i → i ≡ reaches mesh p → home_of mesh (Inside p i) ≡ AtNode (end_node mesh p true)
home-last mesh p i h e = rw (ne_eqb i 0 (omega arith), eq-eqb i (reaches mesh p) e) refl

home-own : (mesh : Mesh) (p i : ℕ) → 0 < i → i < reaches mesh p → home_of mesh (Inside p i) ≡ Inside p i
home-own mesh p i h b = rw (ne_eqb i 0 (omega arith), ne_eqb i (reaches mesh p) (omega arith)) refl

-- what is read for a spot, by the spot that is computed together with it
abbrev AgreeFrom : Mesh → Row → Row → Spot → Type 0
AgreeFrom mesh one other home = (spot : Spot) → Reads mesh home spot → AgreeAt one other spot

inner-agrees : (law : Meaning) (s p i : ℕ) (one other : Row) → 0 < i → i < reaches law.mesh p → AgreeFrom law.mesh one other (Inside p i) → ((next law s one).point p i) ≡ ((next law s other).point p i)
inner-agrees law s p i one other h b agree =
    let l : (one.point p (i - 1)) ≡ (other.point p (i - 1)) = agree (Inside p (i - 1)) (refl, h, b, omega arith, omega arith) in
    let m : (one.point p i) ≡ (other.point p i) = agree (Inside p i) (refl, h, b, omega arith, omega arith) in
    let r : (one.point p (i + 1)) ≡ (other.point p (i + 1)) = agree (Inside p (i + 1)) (refl, h, b, omega arith, omega arith) in
    inner-is law s p i one h b
    ∙ ap (λ (x : Point). law.inner p i x (one.point p i) (one.point p (i + 1))) l
    ∙ ap (λ (x : Point). law.inner p i (other.point p (i - 1)) x (one.point p (i + 1))) m
    ∙ ap (λ (x : Point). law.inner p i (other.point p (i - 1)) (other.point p i) x) r
    ∙ sym (inner-is law s p i other h b)

place-agrees : (law : Meaning) (s p i : ℕ) (one other : Row) → i ≤ reaches law.mesh p → AgreeOnReads law.mesh one other (Inside p i) → ((next law s one).point p i) ≡ ((next law s other).point p i)
place-agrees law s p i one other b agree = elim (cases_lt 0 i) [
  | inr z ↦
      let e : i ≡ 0 = omega arith in
      first-is law s p i one e ∙ end-agrees law s p false one other (subst (AgreeFrom law.mesh one other) (home-first law.mesh p i e) agree) ∙ sym (first-is law s p i other e)
  | inl h ↦ elim (cases_lt i (reaches law.mesh p)) [
    | inl l ↦ inner-agrees law s p i one other h l (subst (AgreeFrom law.mesh one other) (home-own law.mesh p i h l) agree)
    | inr l ↦
        let e : i ≡ reaches law.mesh p = omega arith in
        last-is law s p i one h e ∙ end-agrees law s p true one other (subst (AgreeFrom law.mesh one other) (home-last law.mesh p i h e) agree) ∙ sym (last-is law s p i other h e)
  ]
]

pub spots-agree : (law : Meaning) (s : ℕ) (one other : Row) (spot : Spot) → HasSpot law.mesh spot → AgreeOnReads law.mesh one other spot → AgreeAfter law s one other spot
spots-agree law s one other (AtNode k) has agree = state-agrees law s k one other agree
spots-agree law s one other (Inside p i) has agree = place-agrees law s p i one other has.1 agree
