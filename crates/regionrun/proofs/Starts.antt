-- What strands own of the initial row, and where the places lie that they own.
use Rattle.std.proofs.Common.{◌≡◌, ℕ, zero, suc, ◌+◌, ◌-◌, ◌*◌, ◌<◌, ◌≤◌, inl, inr, ◌==◌, true}
use Rattle.std.proofs.Common.{false, length, refl, ap, sym, subst, ◌∙◌, arith, eq-eqb}
use Rattle.std.specs.Prelude.{◌&&◌, nat_lt}
use Rattle.std.proofs.lemmas.Bool.{and_parts, cases_lt, eqb-true, false_from_ne_true, le-ltb}
use Rattle.std.proofs.lemmas.Bool.{lt-ltb, ltb-true, ne_eqb, or_cases}
use Rattle.std.proofs.lemmas.List.Folds.{list_any_at}
use Rattle.std.proofs.Math.Bool.{and-false, or-true}
use Rattle.case_model.specs.declared.cases.ProbeAt.{ProbeAt}
use Rattle.case_model.specs.declared.cases.ProbeAt.TheVariants.{OnPipe, OnNode}
use Rattle.case_model.specs.declared.meshes.End.{End}
use Rattle.case_model.specs.declared.meshes.Mesh.{Mesh}
use Rattle.case_model.specs.Joints.{no_end}
use Rattle.case_model.specs.Mesh.{base_of, ends_of, reaches}
use Rattle.case_model.specs.PlaceNumbers.{number_of, place_at}
use Rattle.case_model.proofs.ListFacts.{any-index, same-tests}
use Rattle.fronts.specs.Bands.{from_place}
use Rattle.regions.specs.declared.shapes.Layout.{Layout}
use Rattle.regions.specs.declared.shapes.Shape.{Shape}
use Rattle.regions.specs.declared.shapes.Shape.TheVariants.{OfNode, OfSeam, OfSection}
use Rattle.regions.specs.Regions.{InShape, InStation, Owner, owner_of}
use Rattle.regions.specs.Sides.{end_at, shape_at}
use Rattle.regions.specs.Touching.{IsStanding, station_pipe, station_place}
use Rattle.regionrun.specs.Lawful.{IsLawful}
use Rattle.regionrun.specs.Owned.{end_number, end_place, is_own, owned, spot_of}
use Rattle.regionrun.proofs.Beside.{fan-stations, stations-fan}
use Rattle.regionrun.proofs.Nodes.{at-most, node-beside, node-stands, node-station}
use Rattle.regionrun.proofs.Owning.{owned-later, owned-out, owned-start, owner-is, region-is}
use Rattle.regionrun.proofs.Seams.{seam-beside, seam-stands, seam-station}
use Rattle.regionrun.proofs.Spots.{node-below, node-is, place-below, place-is}
use Rattle.regions.proofs.Joining.{sides-from}

-- ---- what is in a region at step 1 is a place of the initial row

zero-away : (w m d : ℕ) → InStation w m d 1 → d ≡ 0
zero-away w m d s = let a = s.after in omega arith

same-place : (a b : ℕ) → from_place a b ≡ 0 → b ≡ a
same-place a b h = omega arith

start-by : (layout : Layout) (mesh : Mesh) (x r k : ℕ) (s : Shape) (here : ProbeAt)
    → IsLawful layout mesh → x < length layout.shapes → shape_at layout x ≡ s
    → number_of mesh here ≡ k → InShape layout x r 1 s (spot_of here) → is_own mesh s k ≡ true
start-by layout mesh x r k (OfNode node) (OnNode o) lawful h e n i =
    rw (eq-eqb k node (let z = i.0 in omega arith)) refl
start-by layout mesh x r k (OfSeam p q left right) (OnNode o) lawful h e n i = absurd i
start-by layout mesh x r k (OfSection p place count left right) (OnNode o) lawful h e n i = absurd i
start-by layout mesh x r k (OfNode node) (OnPipe o i) lawful h e n in_it =
    let f = stations-fan layout mesh x r o i 1 lawful (node-station layout x node h e) in_it in
    let end = end_at mesh node f.c in
    let z = sides-from layout mesh x _ e in
    let index : f.c < length (ends_of mesh node) = let l = f.beside.index in omega arith in
    let pipe : end.pipe ≡ o = sym (ap (station_pipe mesh f.c) e) ∙ f.beside.pipe in
    let base : base_of mesh end.pipe ≡ base_of mesh o = ap (base_of mesh) pipe in
    let place : station_place mesh f.c (shape_at layout x) ≡ end_place mesh end =
    ap (station_place mesh f.c) e in
    let same : i ≡ station_place mesh f.c (shape_at layout x) =
    same-place _ i (zero-away layout.window r _ f.at) in
    let found = list_any_at (λ (u : End). k == end_number mesh u) (ends_of mesh node) f.c no_end
    index (eq-eqb k (end_number mesh end) (omega arith)) in
    rw (found, or-true) refl
start-by layout mesh x r k (OfSeam p q left right) (OnPipe o i) lawful h e n in_it =
    let f = stations-fan layout mesh x r o i 1 lawful (seam-station layout x p q left right h e)
    in_it in
    let pipe : p ≡ o = sym (ap (station_pipe mesh f.c) e) ∙ f.beside.pipe in
    let base : base_of mesh p ≡ base_of mesh o = ap (base_of mesh) pipe in
    let place : station_place mesh f.c (shape_at layout x) ≡ q = ap (station_place mesh f.c) e in
    let same : i ≡ station_place mesh f.c (shape_at layout x) =
    same-place _ i (zero-away layout.window r _ f.at) in
    eq-eqb k (base_of mesh p + q) (omega arith)
start-by layout mesh x r k (OfSection p place count left right) (OnPipe o i) lawful h e n in_it =
    let base : base_of mesh p ≡ base_of mesh o = ap (base_of mesh) in_it.0 in
    let low = in_it.1 in
    let high = in_it.2 in
    rw (
      lt-ltb (base_of mesh p + place) k (omega arith),
      lt-ltb k (base_of mesh p + place + count) (omega arith),
    ) refl

-- ---- and each of these is in region 0

pub some-windows : (n w : ℕ) → 1 ≤ n * w → 0 < n
some-windows zero w h = let z : 0 * w ≡ 0 = omega arith in omega arith
some-windows (suc n) w h = omega arith

at-first : (w d : ℕ) → 1 ≤ w → d ≡ 0 → InStation w 0 d 1
at-first w d some e = record { after = omega arith; before = omega arith }

record IsStart (layout : Layout) (mesh : Mesh) (x k : ℕ) (s : Shape) : Type 0 where
  below : k < mesh.places
  region : InShape layout x 0 1 s (spot_of (place_at mesh k))

own-node : (layout : Layout) (mesh : Mesh) (x node k : ℕ) → IsLawful layout mesh
    → x < length layout.shapes → shape_at layout x ≡ OfNode node → k ≡ node
    → IsStart layout mesh x k (OfNode node)
own-node layout mesh x node k lawful h e same =
    let on = node-stands layout mesh x node lawful h e in
    let l : k < length mesh.ends = let b = on.1 in omega arith in
    record {
      below = node-below layout mesh k lawful l;
      region = subst (λ (here : ProbeAt). InShape layout x 0 1 (OfNode node) (spot_of here))
          (sym (node-is layout mesh k lawful l)) (
            sym same,
            some-windows layout.windows layout.window lawful.steps,
            at-first layout.window 0 lawful.whole.some refl,
          );
    }

own-end : (layout : Layout) (mesh : Mesh) (x node j k : ℕ) → IsLawful layout mesh
    → x < length layout.shapes → shape_at layout x ≡ OfNode node
    → j < length (ends_of mesh node) → k ≡ end_number mesh (end_at mesh node j)
    → IsStart layout mesh x k (OfNode node)
own-end layout mesh x node j k lawful h e l same =
    let end = end_at mesh node j in
    let on = node-stands layout mesh x node lawful h e in
    let long = lawful.touching.ends node j on.1 l in
    let i : ℕ = end_place mesh end in
    let fits : i ≤ reaches mesh end.pipe = at-most end.at_last (reaches mesh end.pipe) in
    let place : station_place mesh j (shape_at layout x) ≡ i = ap (station_place mesh j) e in
    record {
      below = place-below layout mesh end.pipe i k lawful long.there fits same;
      region = subst (λ (here : ProbeAt). InShape layout x 0 1 (OfNode node) (spot_of here))
          (sym (place-is layout mesh end.pipe i k lawful long.there fits same))
          (fan-stations layout mesh x 0 end.pipe i 1 lawful (node-station layout x node h e)
          (record {
            c = j;
            beside = node-beside layout mesh x j node i e l fits;
            few = some-windows layout.windows layout.window lawful.steps;
            at = at-first layout.window _ lawful.whole.some (omega arith);
          }));
    }

own-by : (layout : Layout) (mesh : Mesh) (x k : ℕ) (s : Shape) → IsLawful layout mesh
    → x < length layout.shapes → shape_at layout x ≡ s → is_own mesh s k ≡ true
    → IsStart layout mesh x k s
own-by layout mesh x k (OfNode node) lawful h e o = elim (or_cases (k == node) _ o) [
  | inl a ↦ own-node layout mesh x node k lawful h e (eqb-true k node a)
  | inr a ↦
      let r = any-index (λ (u : End). k == end_number mesh u) (ends_of mesh node) no_end a in
      own-end layout mesh x node r.0 k lawful h e r.1
      (eqb-true k (end_number mesh (end_at mesh node r.0)) r.2)
]
own-by layout mesh x k (OfSeam p q left right) lawful h e o =
    let same : k ≡ base_of mesh p + q = eqb-true k (base_of mesh p + q) o in
    let on = seam-stands layout mesh x p q left right lawful h e in
    let fits : q ≤ reaches mesh p = let l = on.2 in omega arith in
    let c = seam-beside layout mesh x p q left right q e in
    let place = c.2 in
    record {
      below = place-below layout mesh p q k lawful on.0 fits same;
      region = subst (λ (here : ProbeAt). InShape layout x 0 1 (OfSeam p q left right)
          (spot_of here)) (sym (place-is layout mesh p q k lawful on.0 fits same))
          (fan-stations layout mesh x 0 p q 1 lawful (seam-station layout x p q left right h e)
          (record {
            c = c.0;
            beside = c.1;
            few = some-windows layout.windows layout.window lawful.steps;
            at = at-first layout.window _ lawful.whole.some (omega arith);
          }));
    }
own-by layout mesh x k (OfSection p place count left right) lawful h e o =
    let a = and_parts (nat_lt (base_of mesh p + place) k) _ o in
    let low : base_of mesh p + place < k = ltb-true (base_of mesh p + place) k a.0 in
    let high : k < base_of mesh p + place + count =
    ltb-true k (base_of mesh p + place + count) a.1 in
    let on : IsStanding mesh layout.window x (OfSection p place count left right) =
    subst (IsStanding mesh layout.window x) e (lawful.touching.stands x h) in
    let i : ℕ = k - base_of mesh p in
    let end : place + count ≤ reaches mesh p = on.3 in
    record {
      below = place-below layout mesh p i k lawful on.0 (omega arith) (omega arith);
      region = subst (λ (here : ProbeAt). InShape layout x 0 1 (OfSection p place count left right)
          (spot_of here)) (sym (place-is layout mesh p i k lawful on.0 (omega arith) (omega arith)))
          (refl, omega arith, omega arith, omega arith, (omega arith, omega arith));
    }

-- ---- the initial row

pub owned-initial : (layout : Layout) (mesh : Mesh) (x : ℕ) → IsLawful layout mesh
    → x < length layout.shapes → (s k : ℕ)
    → owned mesh layout.window x 0 s k ≡ ((s == 0) && is_own mesh (shape_at layout x) k)
owned-initial layout mesh x lawful h s k =
    let w : ℕ = layout.window in
    let shape = shape_at layout x in
    let start = λ (o : is_own mesh shape k ≡ true). own-by layout mesh x k shape lawful h refl o in
    elim (cases_lt k mesh.places) [
      | inr l ↦
          let z : is_own mesh shape k ≡ false =
          false_from_ne_true (is_own mesh shape k)
          (λ o. let b = (start o).below in absurd (omega arith)) in
          rw (owned-out mesh w x 0 s k l, z, and-false) refl
      | inl l ↦ elim (cases_lt 0 s) [
        | inl b ↦ rw (
          owned-later mesh w x 0 s k l b,
          ne_eqb s 0 (λ e. absurd (omega arith)),
          le-ltb (owner_of mesh w (spot_of (place_at mesh k)) s).region 0 (omega arith),
          and-false,
        ) refl
        | inr b ↦
            let e : s ≡ 0 = omega arith in
            let o = owner_of mesh w (spot_of (place_at mesh k)) 1 in
            ap (λ t. owned mesh w x 0 t k) e ∙ owned-start mesh w x 0 k l
            ∙ same-tests (o.strand == x) (is_own mesh shape k)
            (λ t. start-by layout mesh x o.region k shape (place_at mesh k) lawful h refl
            (lawful.told.number k l)
            (region-is layout mesh x o.region 1 k lawful l (omega arith) lawful.steps
            (eqb-true o.strand x t) refl))
            (λ t. eq-eqb o.strand x (ap (λ (a : Owner). a.strand)
            (owner-is layout mesh x 0 1 k lawful h l (start t).region)))
            ∙ rw (eq-eqb s 0 e) refl
      ]
    ]
