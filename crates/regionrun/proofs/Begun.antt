-- The initial row and the regions of nodes as strands note them.
use Rattle.std.proofs.Common.{◌≡◌, ℕ, suc, ◌+◌, ◌-◌, ◌*◌, ◌/◌, ◌<◌, ◌≤◌, inl, inr, Bool, ◌==◌}
use Rattle.std.proofs.Common.{true, List, length, get_or, refl, ap, sym, ◌∙◌, arith, eq-eqb}
use Rattle.std.specs.Prelude.{◌&&◌, ◌||◌, nat_le, nat_lt}
use Rattle.std.specs.List.{list_any}
use Rattle.std.proofs.lemmas.Bool.{and_parts, eqb-true, or_cases}
use Rattle.std.proofs.lemmas.List.Folds.{list_any_at}
use Rattle.std.proofs.Math.Bool.{or-true}
use Rattle.case_model.specs.declared.meshes.End.{End}
use Rattle.case_model.specs.declared.meshes.Mesh.{Mesh}
use Rattle.case_model.specs.Joints.{no_end}
use Rattle.case_model.specs.Mesh.{base_of, ends_of}
use Rattle.case_model.proofs.ListFacts.{any-index, same-tests}
use Rattle.fronts.specs.Stretches.{count_of}
use Rattle.fronts.specs.declared.stretches.Stretch.{Stretch}
use Rattle.regions.specs.declared.shapes.Layout.{Layout}
use Rattle.regions.specs.declared.shapes.Shape.{Shape}
use Rattle.regions.specs.declared.shapes.Shape.TheVariants.{OfNode, OfSeam, OfSection}
use Rattle.regions.specs.Sides.{end_at, shape_at}
use Rattle.strands.specs.Marks.{Marks, or_marked}
use Rattle.strands.specs.Stations.{half}
use Rattle.regionrun.specs.Lawful.{IsLawful}
use Rattle.regionrun.specs.Owned.{end_number, is_own, owned}
use Rattle.regionrun.proofs.Nodes.{AreOfNode, spoke_marks}
use Rattle.regionrun.proofs.Seams.{IsOverSeam, seam-stands}
use Rattle.regionrun.proofs.Starts.{owned-initial}
use Rattle.regionrun.proofs.Tents.{IsOverSection}

-- ---- the initial row

own-start : (layout : Layout) (mesh : Mesh) (x : ℕ) (shape : Shape) → IsLawful layout mesh
    → x < length layout.shapes → shape_at layout x ≡ shape → (s k : ℕ)
    → owned mesh layout.window x 0 s k ≡ ((s == 0) && is_own mesh shape k)
own-start layout mesh x shape lawful h e s k =
    owned-initial layout mesh x lawful h s k
    ∙ ap (λ (u : Shape). (s == 0) && is_own mesh u k) e

less-is : (a b : ℕ) → nat_lt a b ≡ nat_le (a + 1) b
less-is a b = ap (λ (u : ℕ). nat_le u b) (let e : suc a ≡ a + 1 = omega arith in e)

-- of a section
pub section-start : (layout : Layout) (mesh : Mesh) (x p place n left right : ℕ)
    (stretch : Stretch) → IsLawful layout mesh
    → IsOverSection layout mesh x p place n left right stretch → (s k : ℕ)
    → owned mesh layout.window x 0 s k
    ≡ ((s == 0) && (nat_le (stretch.number + 1) k && nat_lt k
    (stretch.number + (count_of stretch - 1))))
section-start layout mesh x p place n left right stretch lawful over s k =
    let number = over.over.number_is in
    let count = over.over.count_is in
    let low : base_of mesh p + place + 1 ≡ stretch.number + 1 = omega arith in
    let high : base_of mesh p + place + n ≡ stretch.number + (count_of stretch - 1) = omega arith in
    own-start layout mesh x (OfSection p place n left right) lawful over.there over.shape s k
    ∙ ap (λ (b : Bool). (s == 0) && (b && nat_lt k (base_of mesh p + place + n)))
    (less-is (base_of mesh p + place) k ∙ ap (λ (u : ℕ). nat_le u k) low)
    ∙ ap (λ (u : ℕ). (s == 0) && (nat_le (stretch.number + 1) k && nat_lt k u)) high

-- of a seam
pub seam-start : (layout : Layout) (mesh : Mesh) (x p q left right : ℕ) (stretch : Stretch)
    → IsLawful layout mesh → IsOverSeam layout mesh x p q left right stretch → (s k : ℕ)
    → owned mesh layout.window x 0 s k
    ≡ ((s == 0) && (k == stretch.number + count_of stretch / 2))
seam-start layout mesh x p q left right stretch lawful over s k =
    let on = seam-stands layout mesh x p q left right lawful over.there over.shape in
    let room : half layout.window ≤ q = on.1 in
    let number = over.over.number_is in
    let count = over.over.count_is in
    let same : base_of mesh p + q ≡ stretch.number + count_of stretch / 2 = omega arith in
    own-start layout mesh x (OfSeam p q left right) lawful over.there over.shape s k
    ∙ ap (λ (u : ℕ). (s == 0) && (k == u)) same

-- of a node, whose ends have these numbers in a list of what is kept of each
both : (a b : Bool) → a ≡ true → b ≡ true → (a && b) ≡ true
both a b e f = rw (e, f) refl

from-list : {X : Type 0} (number : X → ℕ) (d : X) (spokes : List X) (ends : List End) (mesh : Mesh)
    (node s k : ℕ) → length spokes ≡ length ends
    → ((j : ℕ) → j < length ends → number (get_or spokes j d) ≡ end_number mesh
    (get_or ends j no_end))
    → (list_any (λ x. (s == 0) && (k == number x)) spokes || ((s == 0) && (k == node))) ≡ true
    → ((s == 0) && ((k == node) || list_any (λ e. k == end_number mesh e) ends)) ≡ true
from-list number d spokes ends mesh node s k len each h =
    elim (or_cases (list_any (λ x. (s == 0) && (k == number x)) spokes) _ h) [
      | inl a ↦
          let r = any-index (λ x. (s == 0) && (k == number x)) spokes d a in
          let l : r.0 < length ends = let b : r.0 < length spokes = r.1 in omega arith in
          let t = and_parts (s == 0) (k == number (get_or spokes r.0 d)) r.2 in
          let e : k ≡ number (get_or spokes r.0 d) =
          eqb-true k (number (get_or spokes r.0 d)) t.1 in
          let f = list_any_at (λ (u : End). k == end_number mesh u) ends r.0 no_end l
          (eq-eqb k (end_number mesh (get_or ends r.0 no_end)) (e ∙ each r.0 l)) in
          rw (t.0, f, or-true) refl
      | inr a ↦ let t = and_parts (s == 0) (k == node) a in rw (t.0, t.1) refl
    ]

to-list : {X : Type 0} (number : X → ℕ) (d : X) (spokes : List X) (ends : List End) (mesh : Mesh)
    (node s k : ℕ) → length spokes ≡ length ends
    → ((j : ℕ) → j < length ends → number (get_or spokes j d) ≡ end_number mesh
    (get_or ends j no_end))
    → ((s == 0) && ((k == node) || list_any (λ e. k == end_number mesh e) ends)) ≡ true
    → (list_any (λ x. (s == 0) && (k == number x)) spokes || ((s == 0) && (k == node))) ≡ true
to-list number d spokes ends mesh node s k len each h =
    let t = and_parts (s == 0) _ h in
    elim (or_cases (k == node) _ t.1) [
      | inl a ↦ rw (t.0, a, or-true) refl
      | inr a ↦
          let r = any-index (λ (u : End). k == end_number mesh u) ends no_end a in
          let e : k ≡ end_number mesh (get_or ends r.0 no_end) =
          eqb-true k (end_number mesh (get_or ends r.0 no_end)) r.2 in
          let l : r.0 < length spokes = let b : r.0 < length ends = r.1 in omega arith in
          let f = list_any_at (λ x. (s == 0) && (k == number x)) spokes r.0 d l
          (both (s == 0) (k == number (get_or spokes r.0 d)) t.0
          (eq-eqb k (number (get_or spokes r.0 d)) (e ∙ sym (each r.0 r.1)))) in
          rw (f) refl
    ]

pub node-start : {X : Type 0} (number : X → ℕ) (d : X) (spokes : List X) (layout : Layout)
    (mesh : Mesh) (x node : ℕ) → IsLawful layout mesh
    → x < length layout.shapes → shape_at layout x ≡ OfNode node
    → length spokes ≡ length (ends_of mesh node)
    → ((j : ℕ) → j < length (ends_of mesh node)
    → number (get_or spokes j d) ≡ end_number mesh (end_at mesh node j)) → (s k : ℕ)
    → owned mesh layout.window x 0 s k
    ≡ (list_any (λ y. (s == 0) && (k == number y)) spokes || ((s == 0) && (k == node)))
node-start number d spokes layout mesh x node lawful h e len each s k =
    own-start layout mesh x (OfNode node) lawful h e s k
    ∙ same-tests _ _ (to-list number d spokes (ends_of mesh node) mesh node s k len each)
    (from-list number d spokes (ends_of mesh node) mesh node s k len each)

-- ---- the regions of a node, whose spokes stand in a list

pub of-list : {X : Type 0} (stretch : X → Stretch) (at : X → ℕ) (d : X) (spokes : List X)
    (w m node : ℕ) (passed : Marks)
    → ((s k : ℕ) → k ≡ node → m * w < s → s ≤ m * w + w → passed s k ≡ true)
    → ((s k : ℕ) → passed s k ≡ true → (k ≡ node) × (m * w < s) × (s ≤ m * w + w))
    → AreOfNode w m node (length spokes) (λ j. stretch (get_or spokes j d))
    (λ j. at (get_or spokes j d))
    (or_marked (λ s k. list_any (λ x. spoke_marks w m (at x) (stretch x) s k) spokes) passed)
of-list stretch at d spokes w m node passed here only = record {
  node_in = λ s k e a b. rw (here s k e a b, or-true) refl;
  spoke_in = λ j s k l h.
      let f = list_any_at (λ x. spoke_marks w m (at x) (stretch x) s k) spokes j d l h in
      rw (f) refl;
  only = λ s k h.
      elim (or_cases (list_any (λ x. spoke_marks w m (at x) (stretch x) s k) spokes) _ h) [
        | inl a ↦ inr (any-index (λ x. spoke_marks w m (at x) (stretch x) s k) spokes d a)
        | inr a ↦ inl (only s k a)
      ];
}
