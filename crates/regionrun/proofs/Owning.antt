-- What a strand owns grows by the marks of one region after another.
use Rattle.std.proofs.Common.{◌≡◌, ℕ, ◌+◌, ◌*◌, ◌<◌, ◌≤◌, inl, inr, Bool, true, false}
use Rattle.std.proofs.Common.{◌==◌, refl, ap, sym, subst, ◌∙◌, arith, eq-eqb, length}
use Rattle.std.specs.Prelude.{◌||◌, ◌&&◌, nat_lt, max}
use Rattle.std.proofs.lemmas.Bool.{cases_lt, false_from_ne_true, lt-ltb, le-ltb, ne_eqb, cases_eq}
use Rattle.std.proofs.Math.Bool.{or-false, or-true, and-true}
use Rattle.case_model.specs.declared.cases.ProbeAt.{ProbeAt}
use Rattle.case_model.specs.declared.cases.ProbeAt.TheVariants.{OnPipe, OnNode}
use Rattle.case_model.specs.declared.meshes.Mesh.{Mesh}
use Rattle.case_model.specs.PlaceNumbers.{IsOn, place_at}
use Rattle.regions.specs.declared.shapes.Layout.{Layout}
use Rattle.regions.specs.Regions.{HasSpot, InRegion, Owner, owner_of}
use Rattle.strands.specs.Marks.{Marks, or_marked}
use Rattle.regionrun.specs.Lawful.{IsLawful}
use Rattle.regionrun.specs.Owned.{spot_of, owned, AreOfRegion}

-- ---- tests

-- one more region
tell : (y r x m : ℕ) (z : Bool) → (z ≡ true → (y ≡ x) × (r ≡ m)) → (y ≡ x → r ≡ m → z ≡ true)
    → ((y == x) && nat_lt r (m + 1)) ≡ (((y == x) && nat_lt r m) || z)
tell y r x m true f g = let h = f refl in
    rw (eq-eqb y x h.0, lt-ltb r (m + 1) (let e = h.1 in omega arith), or-true) refl
tell y r x m false f g = elim (cases_eq y x) [
  | inr n ↦ rw (ne_eqb y x n) refl
  | inl e ↦ elim (cases_lt r m) [
    | inl l ↦ rw (eq-eqb y x e, lt-ltb r (m + 1) (omega arith), lt-ltb r m l) refl
    | inr l ↦ elim (cases_eq r m) [
      | inl a ↦ let z = g e a in cc
      | inr a ↦ rw (eq-eqb y x e, le-ltb r (m + 1) (omega arith), le-ltb r m l) refl
    ]
  ]
]

-- ---- what is owned, by the owner

pub has-spot : (layout : Layout) (mesh : Mesh) (k : ℕ) → IsLawful layout mesh → k < mesh.places
    → HasSpot mesh (spot_of (place_at mesh k))
has-spot layout mesh k lawful h = on-spot mesh (place_at mesh k) (lawful.told.on k h)
  where
    on-spot : (mesh : Mesh) (at : ProbeAt) → IsOn mesh at → HasSpot mesh (spot_of at)
    on-spot mesh (OnPipe pipe place) h = h
    on-spot mesh (OnNode node) h = h

pub owned-out : (mesh : Mesh) (w x c s k : ℕ) → mesh.places ≤ k → owned mesh w x c s k ≡ false
unfolding owned
owned-out mesh w x c s k h = rw (le-ltb k mesh.places h) refl

later-is : (s : ℕ) → 1 ≤ s → max 1 s ≡ s
later-is s h = omega arith

pub owned-later : (mesh : Mesh) (w x c s k : ℕ) → k < mesh.places → 1 ≤ s
    → owned mesh w x c s k ≡ (((owner_of mesh w (spot_of (place_at mesh k)) s).strand == x) &&
    nat_lt (owner_of mesh w (spot_of (place_at mesh k)) s).region c)
unfolding owned
owned-later mesh w x c s k h l =
    rw (lt-ltb k mesh.places h, ne_eqb s 0 (λ e. absurd (omega arith)), later-is s l) refl

pub owned-start : (mesh : Mesh) (w x c k : ℕ) → k < mesh.places
    → owned mesh w x c 0 k ≡ ((owner_of mesh w (spot_of (place_at mesh k)) 1).strand == x)
unfolding owned
owned-start mesh w x c k h = rw (lt-ltb k mesh.places h) (and-true _)

-- the owner of a spot of a region
pub owner-is : (layout : Layout) (mesh : Mesh) (x m s k : ℕ) → IsLawful layout mesh
    → x < length layout.shapes → k < mesh.places
    → InRegion layout x m (spot_of (place_at mesh k)) s
    → owner_of mesh layout.window (spot_of (place_at mesh k)) s ≡ record { strand = x; region = m }
owner-is layout mesh x m s k lawful h l r =
    lawful.partition.owned (spot_of (place_at mesh k)) s x m (has-spot layout mesh k lawful l) h r

-- what an owner has lies in its region
pub region-is : (layout : Layout) (mesh : Mesh) (x m s k : ℕ) → IsLawful layout mesh
    → k < mesh.places → 1 ≤ s → s ≤ layout.windows * layout.window
    → (owner_of mesh layout.window (spot_of (place_at mesh k)) s).strand ≡ x
    → (owner_of mesh layout.window (spot_of (place_at mesh k)) s).region ≡ m
    → InRegion layout x m (spot_of (place_at mesh k)) s
region-is layout mesh x m s k lawful l some end e f =
    subst (λ (y : ℕ). InRegion layout y m (spot_of (place_at mesh k)) s) e
    (subst (λ (y : ℕ). InRegion layout
    (owner_of mesh layout.window (spot_of (place_at mesh k)) s).strand y
    (spot_of (place_at mesh k)) s) f
    (lawful.partition.inside (spot_of (place_at mesh k)) s (has-spot layout mesh k lawful l) some
    end))

-- ---- one more region

pub owned-next : (layout : Layout) (mesh : Mesh) (x m : ℕ) (marks : Marks) → IsLawful layout mesh
    → x < length layout.shapes → AreOfRegion layout mesh x m marks
    → (s k : ℕ) → s ≤ layout.windows * layout.window
    → owned mesh layout.window x (m + 1) s k ≡ or_marked (owned mesh layout.window x m) marks s k
owned-next layout mesh x m marks lawful h of s k end =
    let w : ℕ = layout.window in
    elim (cases_lt k mesh.places) [
      | inr l ↦
          let z : marks s k ≡ false = false_from_ne_true (marks s k)
          (λ t. let b = of.there s k t in absurd (omega arith)) in
          rw (owned-out mesh w x (m + 1) s k l, owned-out mesh w x m s k l, z) refl
      | inl l ↦ elim (cases_lt 0 s) [
        | inr b ↦
            let e : s ≡ 0 = omega arith in
            let z : marks s k ≡ false = false_from_ne_true (marks s k)
            (λ t. let a = of.later s k t in absurd (omega arith)) in
            let same : owned mesh w x (m + 1) s k ≡ owned mesh w x m s k =
            ap (λ t. owned mesh w x (m + 1) t k) e ∙ owned-start mesh w x (m + 1) k l
            ∙ sym (owned-start mesh w x m k l) ∙ ap (λ t. owned mesh w x m t k) (sym e) in
            rw (z) (same ∙ sym (or-false (owned mesh w x m s k)))
        | inl b ↦
            let o = owner_of mesh w (spot_of (place_at mesh k)) s in
            rw (owned-later mesh w x (m + 1) s k l b, owned-later mesh w x m s k l b)
            (tell o.strand o.region x m (marks s k)
            (λ t. let e = owner-is layout mesh x m s k lawful h l (of.only s k t) in
            (ap (λ (a : Owner). a.strand) e, ap (λ (a : Owner). a.region) e))
            (λ a c. of.inside s k l b end (region-is layout mesh x m s k lawful l b end a c)))
      ]
    ]
