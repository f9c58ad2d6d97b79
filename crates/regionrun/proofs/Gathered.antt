-- What all strands own, one strand after another.
use Rattle.std.proofs.Common.{◌≡◌, ℕ, ◌+◌, ◌*◌, ◌<◌, ◌≤◌, inl, inr, Bool, ◌==◌, true, false, length}
use Rattle.std.proofs.Common.{refl, arith, eq-eqb}
use Rattle.std.specs.Prelude.{◌&&◌, ◌||◌, max, nat_lt}
use Rattle.std.proofs.lemmas.Bool.{cases_lt, le-ltb, lt-ltb, ne_eqb, cases_eq}
use Rattle.std.proofs.Math.Bool.{and-false, or-true}
use Rattle.case_model.specs.declared.meshes.Mesh.{Mesh}
use Rattle.case_model.specs.PlaceNumbers.{place_at}
use Rattle.regions.specs.declared.shapes.Layout.{Layout}
use Rattle.regions.specs.declared.shapes.Shape.{Shape}
use Rattle.regions.specs.declared.shapes.Shape.TheVariants.{OfNode, OfSeam, OfSection}
use Rattle.regions.specs.declared.shapes.Spot.{Spot}
use Rattle.regions.specs.declared.shapes.Spot.TheVariants.{AtNode, Inside}
use Rattle.regions.specs.Regions.{InRegion, InShape}
use Rattle.regions.specs.Sides.{is_section, is_section_shape, shape_at}
use Rattle.schedule.specs.Nets.{regions_of}
use Rattle.strands.specs.Marks.{or_marked}
use Rattle.regionrun.specs.Lawful.{IsLawful}
use Rattle.regionrun.specs.Owned.{owned, owned_below, owner_at, spot_of}
use Rattle.regionrun.proofs.Owning.{has-spot, owned-out, region-is}

-- ---- how many regions a strand has

few-by : (layout : Layout) (x m t : ℕ) (s : Shape) (spot : Spot) → InShape layout x m t s spot
    → m < regions_of (is_section_shape s) layout.windows
few-by layout x m t (OfNode node) (AtNode k) h = h.1
few-by layout x m t (OfNode node) (Inside p i) h = h.region
few-by layout x m t (OfSeam p q left right) (AtNode k) h = absurd h
few-by layout x m t (OfSeam p q left right) (Inside o i) h = h.region
few-by layout x m t (OfSection p place count left right) (AtNode k) h = absurd h
few-by layout x m t (OfSection p place count left right) (Inside o i) h = let l = h.3 in omega arith

pub region-few : (layout : Layout) (x m t : ℕ) (spot : Spot) → InRegion layout x m spot t
    → m < regions_of (is_section layout x) layout.windows
region-few layout x m t spot h = few-by layout x m t (shape_at layout x) spot h

-- ---- one more strand

one-more : (y n : ℕ) (z : Bool) → (y ≡ n → z ≡ true)
    → nat_lt y (n + 1) ≡ (nat_lt y n || ((y == n) && z))
one-more y n z h = elim (cases_eq y n) [
  | inl e ↦ rw (lt-ltb y (n + 1) (omega arith), eq-eqb y n e, h e, or-true) refl
  | inr e ↦ elim (cases_lt y n) [
    | inl l ↦ rw (lt-ltb y (n + 1) (omega arith), lt-ltb y n l) refl
    | inr l ↦ rw (le-ltb y (n + 1) (omega arith), le-ltb y n l, ne_eqb y n e) refl
  ]
]

pub owned_below-none : (mesh : Mesh) (w s k : ℕ) → owned_below mesh w 0 s k ≡ false
unfolding owned_below
owned_below-none mesh w s k = rw (le-ltb (owner_at mesh w s k).strand 0 (omega arith), and-false)
    refl

pub owned_below-out : (mesh : Mesh) (w n s k : ℕ) → mesh.places ≤ k
    → owned_below mesh w n s k ≡ false
unfolding owned_below
owned_below-out mesh w n s k h = rw (le-ltb k mesh.places h) refl

pub owned_below-in : (mesh : Mesh) (w n s k : ℕ) → k < mesh.places
    → owned_below mesh w n s k ≡ nat_lt (owner_at mesh w s k).strand n
unfolding owned_below
owned_below-in mesh w n s k h = rw (lt-ltb k mesh.places h) refl

owned-in : (mesh : Mesh) (w x c s k : ℕ) → k < mesh.places
    → owned mesh w x c s k ≡ (((owner_at mesh w s k).strand == x) &&
    ((s == 0) || nat_lt (owner_at mesh w s k).region c))
unfolding owned
owned-in mesh w x c s k h = rw (lt-ltb k mesh.places h) refl

in-all : (layout : Layout) (mesh : Mesh) (n c s k : ℕ) → IsLawful layout mesh
    → regions_of (is_section layout n) layout.windows ≤ c → s ≤ layout.windows * layout.window
    → k < mesh.places → (owner_at mesh layout.window s k).strand ≡ n
    → ((s == 0) || nat_lt (owner_at mesh layout.window s k).region c) ≡ true
in-all layout mesh n c s k lawful most end l e = elim (cases_lt 0 s) [
  | inr b ↦ rw (eq-eqb s 0 (omega arith)) refl
  | inl b ↦
      let o = owner_at mesh layout.window s k in
      let some = lawful.steps in
      let r = region-few layout n o.region (max 1 s) (spot_of (place_at mesh k))
      (region-is layout mesh n o.region (max 1 s) k lawful l (omega arith) (omega arith) e refl)
      in
      rw (lt-ltb o.region c (omega arith), or-true) refl
]

pub owned_below-more : (layout : Layout) (mesh : Mesh) (n c : ℕ) → IsLawful layout mesh
    → regions_of (is_section layout n) layout.windows ≤ c
    → (s k : ℕ) → s ≤ layout.windows * layout.window
    → owned_below mesh layout.window (n + 1) s k ≡ or_marked (owned_below mesh layout.window n)
    (owned mesh layout.window n c) s k
owned_below-more layout mesh n c lawful most s k end =
    let w : ℕ = layout.window in
    elim (cases_lt k mesh.places) [
      | inr l ↦
          let z : owned mesh w n c s k ≡ false = owned-out mesh w n c s k l in
          rw (owned_below-out mesh w (n + 1) s k l, owned_below-out mesh w n s k l, z) refl
      | inl l ↦
          rw (
            owned_below-in mesh w (n + 1) s k l,
            owned_below-in mesh w n s k l,
            owned-in mesh w n c s k l,
          )
          (one-more (owner_at mesh w s k).strand n
          ((s == 0) || nat_lt (owner_at mesh w s k).region c)
          (in-all layout mesh n c s k lawful most end l))
    ]

-- ---- all strands

pub owned_below-all : (layout : Layout) (mesh : Mesh) → IsLawful layout mesh → (s k : ℕ)
    → s ≤ layout.windows * layout.window
    → owned_below mesh layout.window (length layout.shapes) s k ≡ nat_lt k mesh.places
owned_below-all layout mesh lawful s k end =
    let w : ℕ = layout.window in
    let some = lawful.steps in
    elim (cases_lt k mesh.places) [
      | inr l ↦ rw (owned_below-out mesh w (length layout.shapes) s k l, le-ltb k mesh.places l)
          refl
      | inl l ↦
          let b = lawful.partition.there (spot_of (place_at mesh k)) (max 1 s)
          (has-spot layout mesh k lawful l) (omega arith) (omega arith) in
          rw (owned_below-in mesh w (length layout.shapes) s k l, lt-ltb k mesh.places l)
          (lt-ltb (owner_at mesh w s k).strand (length layout.shapes) b)
    ]
