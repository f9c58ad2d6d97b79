-- Where the places lie that strands own.
use Rattle.std.proofs.Common.{◌≡◌, ℕ, ◌-◌, ◌*◌, ◌/◌, ◌<◌, ◌≤◌, inl, inr, ◌==◌, true, length, refl}
use Rattle.std.proofs.Common.{ap, sym, ◌∙◌, arith}
use Rattle.std.specs.Prelude.{nat_lt}
use Rattle.std.proofs.lemmas.Bool.{and_parts, cases_lt, eqb-true}
use Rattle.case_model.specs.declared.cases.ProbeAt.{ProbeAt}
use Rattle.case_model.specs.declared.cases.ProbeAt.TheVariants.{OnPipe, OnNode}
use Rattle.case_model.specs.declared.meshes.Mesh.{Mesh}
use Rattle.case_model.specs.Mesh.{base_of, ends_of, reaches}
use Rattle.case_model.specs.PlaceNumbers.{IsOn, number_of, place_at}
use Rattle.regions.specs.declared.shapes.Layout.{Layout}
use Rattle.regions.specs.declared.shapes.Shape.{Shape}
use Rattle.regions.specs.declared.shapes.Shape.TheVariants.{OfNode, OfSeam, OfSection}
use Rattle.regions.specs.Regions.{InRegion, InShape, InStation, owner_of}
use Rattle.regions.specs.Sides.{end_at, shape_at}
use Rattle.regions.specs.Touching.{station_pipe, station_place}
use Rattle.regionrun.specs.Lawful.{IsLawful}
use Rattle.regionrun.specs.Owned.{IsReached, end_place, owned, spot_of}
use Rattle.regionrun.proofs.Beside.{stations-fan}
use Rattle.regionrun.proofs.Nodes.{node-station}
use Rattle.regionrun.proofs.Owning.{owned-later, owned-out, owned-start, region-is}
use Rattle.regionrun.proofs.Seams.{seam-station}
use Rattle.regions.proofs.Joining.{sides-from}

-- ---- by the owner's region

-- the owner of what is owned is the strand
pub record IsOwnedAt (layout : Layout) (mesh : Mesh) (x k : ℕ) : Type 0 where
  pub step : ℕ
  pub region : ℕ
  pub below : k < mesh.places
  pub inside : InRegion layout x region (spot_of (place_at mesh k)) step

pub owned-at : (layout : Layout) (mesh : Mesh) (x c s k : ℕ) → IsLawful layout mesh
    → s ≤ layout.windows * layout.window
    → owned mesh layout.window x c s k ≡ true → IsOwnedAt layout mesh x k
owned-at layout mesh x c s k lawful end h =
    let w : ℕ = layout.window in
    elim (cases_lt k mesh.places) [
      | inr l ↦ let z = owned-out mesh w x c s k l in absurd (cc)
      | inl l ↦ elim (cases_lt 0 s) [
        | inl b ↦
            let o = owner_of mesh w (spot_of (place_at mesh k)) s in
            let t = (and_parts (o.strand == x) (nat_lt o.region c)
            (sym (owned-later mesh w x c s k l b) ∙ h)).0 in
            record {
              step = s;
              region = o.region;
              below = l;
              inside =
                  region-is layout mesh x o.region s k lawful l b end (eqb-true o.strand x t) refl;
            }
        | inr b ↦
            let o = owner_of mesh w (spot_of (place_at mesh k)) 1 in
            let e : 0 ≡ s = omega arith in
            let t : (o.strand == x) ≡ true =
            sym (owned-start mesh w x c k l) ∙ ap (λ (u : ℕ). owned mesh w x c u k) e ∙ h in
            record {
              step = 1;
              region = o.region;
              below = l;
              inside =
                  region-is layout mesh x o.region 1 k lawful l (omega arith) lawful.steps
                  (eqb-true o.strand x t) refl;
            }
      ]
    ]

-- ---- by its shape

near : (w m d t : ℕ) → InStation w m d t → d ≤ (w - 1) / 2
near w m d t s = let a = s.after in let b = s.before in omega arith

reached-by : (layout : Layout) (mesh : Mesh) (x r t k : ℕ) (s : Shape) (here : ProbeAt)
    → IsLawful layout mesh → x < length layout.shapes → shape_at layout x ≡ s
    → IsOn mesh here → number_of mesh here ≡ k → InShape layout x r t s (spot_of here)
    → IsReached mesh layout.window s k
reached-by layout mesh x r t k (OfNode node) (OnNode o) lawful h e on n i =
    inl (let z = i.0 in omega arith)
reached-by layout mesh x r t k (OfSeam p q left right) (OnNode o) lawful h e on n i = absurd i
reached-by layout mesh x r t k (OfSection p place count left right) (OnNode o) lawful h e on n i =
    absurd i
reached-by layout mesh x r t k (OfNode node) (OnPipe o i) lawful h e on n in_it =
    let f = stations-fan layout mesh x r o i t lawful (node-station layout x node h e) in_it in
    let end = end_at mesh node f.c in
    let z = sides-from layout mesh x _ e in
    let index : f.c < length (ends_of mesh node) = let l = f.beside.index in omega arith in
    let pipe : end.pipe ≡ o = sym (ap (station_pipe mesh f.c) e) ∙ f.beside.pipe in
    let base : base_of mesh end.pipe ≡ base_of mesh o = ap (base_of mesh) pipe in
    let long : reaches mesh end.pipe ≡ reaches mesh o = ap (reaches mesh) pipe in
    let place : station_place mesh f.c (shape_at layout x) ≡ end_place mesh end =
    ap (station_place mesh f.c) e in
    let l : i ≤ reaches mesh o = on.1 in
    let d = near layout.window r _ t f.at in
    inr (f.c, index, record { low = omega arith; high = omega arith; near = omega arith })
reached-by layout mesh x r t k (OfSeam p q left right) (OnPipe o i) lawful h e on n in_it =
    let f = stations-fan layout mesh x r o i t lawful (seam-station layout x p q left right h e)
    in_it in
    let pipe : p ≡ o = sym (ap (station_pipe mesh f.c) e) ∙ f.beside.pipe in
    let base : base_of mesh p ≡ base_of mesh o = ap (base_of mesh) pipe in
    let long : reaches mesh p ≡ reaches mesh o = ap (reaches mesh) pipe in
    let place : station_place mesh f.c (shape_at layout x) ≡ q = ap (station_place mesh f.c) e in
    let l : i ≤ reaches mesh o = on.1 in
    let d = near layout.window r _ t f.at in
    record { low = omega arith; high = omega arith; near = omega arith }
reached-by layout mesh x r t k (OfSection p place count left right) (OnPipe o i) lawful h e on n
    in_it =
    let base : base_of mesh p ≡ base_of mesh o = ap (base_of mesh) in_it.0 in
    let low = in_it.1 in
    let high = in_it.2 in
    (omega arith, omega arith)

pub owned-reached : (layout : Layout) (mesh : Mesh) (x c s k : ℕ) → IsLawful layout mesh
    → x < length layout.shapes → s ≤ layout.windows * layout.window
    → owned mesh layout.window x c s k ≡ true → IsReached mesh layout.window (shape_at layout x) k
owned-reached layout mesh x c s k lawful h end o =
    let a = owned-at layout mesh x c s k lawful end o in
    reached-by layout mesh x a.region a.step k (shape_at layout x) (place_at mesh k) lawful h refl
    (lawful.told.on k a.below) (lawful.told.number k a.below) a.inside
