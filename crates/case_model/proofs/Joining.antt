-- The ends of pipes among those of the nodes: the first that is found is the joint.
use Rattle.std.proofs.Common.{◌≡◌, ◌≢◌, ◌⊎◌, ℕ, ◌+◌, ◌<◌, ◌==◌, ◌&&◌, not, if◌then◌else◌, Bool, true, false, inl, inr, List, [], length, map, get_or, replicate, refl, ap, subst, sym, ◌∙◌, arith, eq-eqb}
use Rattle.std.specs.List.{list_any, position_or_len, range_with_len}
use Rattle.std.proofs.lemmas.Bool.{cases_eq, cases_lt, false_from_ne_true, ne_eqb}
use Rattle.std.proofs.lemmas.List.{ext_get_or, get_or_past, get_or-replicate, length-replicate}
use Rattle.std.proofs.lemmas.List.Folds.{list_any_at}
use Rattle.std.proofs.lemmas.List.Sums.{position_or_len_is}
use Rattle.std.proofs.lemmas.List.FromFn.{get_or-map-range_with_len, length-map-range_with_len}
use Rattle.case_model.specs.declared.joints.Joint.{Joint}
use Rattle.case_model.specs.declared.joints.PipeJoints.{PipeJoints}
use Rattle.case_model.specs.declared.meshes.End.{End}
use Rattle.case_model.specs.declared.meshes.Mesh.{Mesh}
use Rattle.case_model.specs.Mesh.{ends_of, end_node, end_index, is_end}
use Rattle.case_model.specs.Joints.{joint_of, joints_of, all_joints, no_end, no_joints, side_joint, or_joint, with_joint, IsNoneTo, IsFirstEnd, IsUnjoined, IsJoinedTo}
use Rattle.case_model.proofs.ListFacts.{any-index}

none_of : {X : Type 0} (q : X → Bool) (xs : List X) (d : X) → ((i : ℕ) → i < length xs → q (get_or xs i d) ≡ false) → list_any q xs ≡ false
none_of q xs d h = false_from_ne_true (list_any q xs) (λ t.
    let r = any-index q xs d t in let yes : q (get_or xs r.0 d) ≡ true = r.2 in
    let e : false ≡ true = sym (h r.0 r.1) ∙ yes in cc)

-- the first end that is found is the joint
first_joint : (mesh : Mesh) (p : ℕ) (last : Bool) (j : Joint) → IsFirstEnd mesh p last j → j ≡ joint_of mesh p last
first_joint mesh p last j f =
    let q = is_end p last in
    let at = f.node in
    let inside = f.index in
    let node : end_node mesh p last ≡ j.node =
    position_or_len_is (list_any q) mesh.ends j.node [] (omega arith) f.first.nodes (λ h. list_any_at q (ends_of mesh j.node) j.index no_end f.index f.is) in
    let index : end_index mesh p last ≡ j.index =
    ap (λ k. position_or_len q (ends_of mesh k)) node ∙ position_or_len_is q (ends_of mesh j.node) j.index no_end (omega arith) f.first.ends (λ h. f.is) in
    λ i. record { node = sym node i; index = sym index i }

-- and where none is, the count of nodes stands for its node
no_first : (mesh : Mesh) (p : ℕ) (last : Bool) (j : Joint) → IsUnjoined mesh (length mesh.ends) 0 p last j → j ≡ joint_of mesh p last
no_first mesh p last j u =
    let q = is_end p last in
    let n = length mesh.ends in
    let node : end_node mesh p last ≡ n = position_or_len_is (list_any q) mesh.ends n [] (omega arith) u.none.nodes (λ h. absurd (omega arith)) in
    let index : end_index mesh p last ≡ 0 = ap (λ k. position_or_len q (ends_of mesh k)) node ∙ ap (position_or_len q) (get_or_past mesh.ends n [] (omega arith)) in
    λ i. record { node = (u.node ∙ sym node) i; index = (u.index ∙ sym index) i }

joined : (mesh : Mesh) (p : ℕ) (last : Bool) (j : Joint) → IsFirstEnd mesh p last j ⊎ IsUnjoined mesh (length mesh.ends) 0 p last j → j ≡ joint_of mesh p last
joined mesh p last j (inl f) = first_joint mesh p last j f
joined mesh p last j (inr u) = no_first mesh p last j u

both_joined : (mesh : Mesh) (p : ℕ) (b : PipeJoints) → b.first ≡ joint_of mesh p false → b.last ≡ joint_of mesh p true → b ≡ joints_of mesh p
both_joined mesh p b e f = λ i. record { first = e i; last = f i }

pub all_joined : (mesh : Mesh) (joints : List PipeJoints) → IsJoinedTo mesh (length mesh.ends) 0 joints → joints ≡ all_joints mesh
unfolding all_joints
all_joined mesh joints h =
    let n = length mesh.pipes in
    let m = length-map-range_with_len (joints_of mesh) 0 n in
    ext_get_or no_joints joints (map (joints_of mesh) (range_with_len 0 n)) (h.each ∙ sym m) (λ p l.
    let inside : p < n = let e = h.each in omega arith in
    let b = get_or joints p no_joints in
    both_joined mesh p b (joined mesh p false b.first (h.found p inside false)) (joined mesh p true b.last (h.found p inside true))
    ∙ sym (get_or-map-range_with_len (joints_of mesh) 0 n p p no_joints inside (omega arith)))

-- the joints of a pipe among those of all
pub length-joints : (mesh : Mesh) → length (all_joints mesh) ≡ length mesh.pipes
unfolding all_joints
length-joints mesh = length-map-range_with_len (joints_of mesh) 0 (length mesh.pipes)

pub joints-at : (mesh : Mesh) (p : ℕ) (d : PipeJoints) → p < length mesh.pipes → get_or (all_joints mesh) p d ≡ joints_of mesh p
unfolding all_joints
joints-at mesh p d h = get_or-map-range_with_len (joints_of mesh) 0 (length mesh.pipes) p p d h (omega arith)

-- before the first node no end is joined
side_same : (last : Bool) (j : Joint) → side_joint last (record { first = j; last = j }) ≡ j
side_same true j = refl
side_same false j = refl

pub none_joined : (mesh : Mesh) (j : Joint) (joints : List PipeJoints) → j.node ≡ length mesh.ends → j.index ≡ 0 → joints ≡ replicate (length mesh.pipes) (record { first = j; last = j }) → IsJoinedTo mesh 0 0 joints
none_joined mesh j joints e f is =
    let both : PipeJoints = record { first = j; last = j } in
    record {
      each = ap length is ∙ length-replicate (length mesh.pipes) both;
      found = λ p h last.
          let b : get_or joints p no_joints ≡ both = ap (λ xs. get_or xs p no_joints) is ∙ get_or-replicate (length mesh.pipes) p both no_joints h in
          let s : side_joint last (get_or joints p no_joints) ≡ j = ap (side_joint last) b ∙ side_same last j in
          inr (record {
            node = ap (λ (k : Joint). k.node) s ∙ e;
            index = ap (λ (k : Joint). k.index) s ∙ f;
            none = record { nodes = λ k l. absurd (omega arith); ends = λ i l. absurd (omega arith) };
          });
    }

-- what becomes of a joint at one end more
after : Mesh → ℕ → ℕ → ℕ → Bool → Joint → Joint
after mesh n m p last j =
    if is_end p last (get_or (ends_of mesh n) m no_end) then or_joint (length mesh.ends) j (record { node = n; index = m }) else j

none_more : (mesh : Mesh) (n m p : ℕ) (last : Bool) → is_end p last (get_or (ends_of mesh n) m no_end) ≡ false → IsNoneTo mesh n m p last → IsNoneTo mesh n (m + 1) p last
none_more mesh n m p last here h = record {
  nodes = h.nodes;
  ends = λ i l. elim (cases_eq i m) [
    | inl e ↦ subst (λ k. is_end p last (get_or (ends_of mesh n) k no_end) ≡ false) (sym e) here
    | inr other ↦ h.ends i (omega arith)
  ];
}

is_kept : (nodes : ℕ) (old new : Joint) → old.node < nodes → or_joint nodes old new ≡ old
is_kept nodes old new h = rw (ne_eqb old.node nodes (λ e. absurd (omega arith))) refl

is_new : (nodes : ℕ) (old new : Joint) → old.node ≡ nodes → or_joint nodes old new ≡ new
is_new nodes old new h = rw (eq-eqb old.node nodes h) refl

next_at : (mesh : Mesh) (n m p : ℕ) (last b : Bool) (j : Joint) → is_end p last (get_or (ends_of mesh n) m no_end) ≡ b → n < length mesh.ends → m < length (ends_of mesh n)
    → IsFirstEnd mesh p last j ⊎ IsUnjoined mesh n m p last j → IsFirstEnd mesh p last (after mesh n m p last j) ⊎ IsUnjoined mesh n (m + 1) p last (after mesh n m p last j)
unfolding after
next_at mesh n m p last true j e l k (inl f) =
    let new : Joint = record { node = n; index = m } in
    inl (rw (e, is_kept (length mesh.ends) j new f.node) f)
next_at mesh n m p last true j e l k (inr u) =
    let new : Joint = record { node = n; index = m } in
    inl (rw (e, is_new (length mesh.ends) j new u.node) (record { node = l; index = k; is = e; first = u.none }))
next_at mesh n m p last false j e l k (inl f) = inl (rw e f)
next_at mesh n m p last false j e l k (inr u) = inr (rw e (record { node = u.node; index = u.index; none = none_more mesh n m p last e u.none }))

side_with : (nodes : ℕ) (at last : Bool) (new : Joint) (b : PipeJoints)
    → side_joint last (with_joint nodes at new b) ≡ (if (if at then last else not last) then or_joint nodes (side_joint last b) new else side_joint last b)
side_with nodes true true new b = refl
side_with nodes true false new b = refl
side_with nodes false true new b = refl
side_with nodes false false new b = refl

-- one end more is joined
pub joined_more : (mesh : Mesh) (n m nodes : ℕ) (e : End) (xs ys : List PipeJoints) → nodes ≡ length mesh.ends → n < length mesh.ends → m < length (ends_of mesh n) → e ≡ get_or (ends_of mesh n) m no_end → length ys ≡ length xs
    → (e.pipe < length xs → get_or ys e.pipe no_joints ≡ with_joint nodes e.at_last (record { node = n; index = m }) (get_or xs e.pipe no_joints))
    → ((p : ℕ) → p ≢ e.pipe → get_or ys p no_joints ≡ get_or xs p no_joints) → IsJoinedTo mesh n m xs → IsJoinedTo mesh n (m + 1) ys
unfolding after
joined_more mesh n m nodes e xs ys all l k is each own others h = record {
  each = each ∙ h.each;
  found = λ p inside last.
      let new : Joint = record { node = n; index = m } in
      let x = get_or xs p no_joints in
      let y = get_or ys p no_joints in
      let step : side_joint last y ≡ (if is_end p last e then or_joint nodes (side_joint last x) new else side_joint last x) = elim (cases_eq e.pipe p) [
        | inl same ↦
            let at : y ≡ with_joint nodes e.at_last new x =
            subst (λ q. get_or ys q no_joints ≡ with_joint nodes e.at_last new (get_or xs q no_joints)) same (own (let c = h.each in omega arith)) in
            rw (eq-eqb e.pipe p same) (ap (side_joint last) at ∙ side_with nodes e.at_last last new x)
        | inr other ↦ rw (ne_eqb e.pipe p other) (ap (side_joint last) (others p (λ s. other (sym s))))
      ] in
      let is_after : side_joint last y ≡ after mesh n m p last (side_joint last x) =
      step ∙ ap (λ (d : End). if is_end p last d then or_joint nodes (side_joint last x) new else side_joint last x) is
      ∙ ap (λ (i : ℕ). if is_end p last (get_or (ends_of mesh n) m no_end) then or_joint i (side_joint last x) new else side_joint last x) all in
      subst (λ (j : Joint). IsFirstEnd mesh p last j ⊎ IsUnjoined mesh n (m + 1) p last j) (sym is_after)
      (next_at mesh n m p last (is_end p last (get_or (ends_of mesh n) m no_end)) (side_joint last x) refl l k (h.found p inside last));
}

-- the ends of a node are joined, and the next node begins
next_node : (mesh : Mesh) (n p : ℕ) (last : Bool) (j : Joint) → IsFirstEnd mesh p last j ⊎ IsUnjoined mesh n (length (ends_of mesh n)) p last j → IsFirstEnd mesh p last j ⊎ IsUnjoined mesh (n + 1) 0 p last j
next_node mesh n p last j (inl f) = inl f
next_node mesh n p last j (inr u) = inr (record {
  node = u.node;
  index = u.index;
  none = record {
    nodes = λ k l. elim (cases_eq k n) [
      | inl e ↦ subst (λ i. list_any (is_end p last) (ends_of mesh i) ≡ false) (sym e) (none_of (is_end p last) (ends_of mesh n) no_end u.none.ends)
      | inr other ↦ u.none.nodes k (omega arith)
    ];
    ends = λ i l. absurd (omega arith);
  };
})

pub joined_node : (mesh : Mesh) (n m : ℕ) (joints : List PipeJoints) → m ≡ length (ends_of mesh n) → IsJoinedTo mesh n m joints → IsJoinedTo mesh (n + 1) 0 joints
joined_node mesh n m joints e h = record {
  each = h.each;
  found = λ p l last. next_node mesh n p last (side_joint last (get_or joints p no_joints)) (subst (λ i. IsFirstEnd mesh p last (side_joint last (get_or joints p no_joints)) ⊎ IsUnjoined mesh n i p last (side_joint last (get_or joints p no_joints))) e (h.found p l last));
}
