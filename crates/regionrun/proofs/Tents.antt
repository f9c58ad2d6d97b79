-- What the regions of a section own lies between two fronts of its stretch.
use Rattle.std.proofs.Common.{◌≡◌, ℕ, suc, ◌+◌, ◌-◌, ◌*◌, ◌<◌, ◌≤◌, inl, inr, true, length, refl}
use Rattle.std.proofs.Common.{ap, sym, subst, ◌∙◌, arith}
use Rattle.std.proofs.lemmas.Bool.{cases_lt}
use Rattle.std.proofs.Math.Nat.{mul-le-mul_left}
use Rattle.case_model.specs.declared.cases.ProbeAt.{ProbeAt}
use Rattle.case_model.specs.declared.cases.ProbeAt.TheVariants.{OnPipe, OnNode}
use Rattle.case_model.specs.declared.meshes.Mesh.{Mesh}
use Rattle.case_model.specs.Mesh.{base_of, reaches}
use Rattle.case_model.specs.PlaceNumbers.{number_of, place_at}
use Rattle.fronts.specs.Fronts.{loaded, risen, tent}
use Rattle.fronts.specs.Stretches.{IsStretchOf}
use Rattle.fronts.specs.declared.stretches.Stretch.{Stretch}
use Rattle.regions.specs.declared.shapes.Layout.{Layout}
use Rattle.regions.specs.declared.shapes.Shape.{Shape}
use Rattle.regions.specs.declared.shapes.Shape.TheVariants.{OfSection}
use Rattle.regions.specs.Regions.{InSection, InShape, InStation, height}
use Rattle.regions.specs.Sides.{shape_at}
use Rattle.regions.specs.Touching.{IsStanding}
use Rattle.strands.specs.Marks.{is_between, or_marked}
use Rattle.regionrun.specs.Lawful.{IsLawful}
use Rattle.regionrun.specs.Owned.{AreOfRegion, owned, spot_of}
use Rattle.regionrun.proofs.Owning.{owned-next}
use Rattle.regionrun.proofs.Spots.{between-parts, place-below, place-is}
use Rattle.strands.proofs.Marking.{between-in}

-- ---- regions of a section of n reaches

-- region m is what lies between two fronts
pub record AreFronts (w n m : ℕ) (front later : ℕ → ℕ) : Type 0 where
  pub inside : (y t : ℕ) → 0 < y → y < n → InSection w n m y t → (front y < t) × (t ≤ later y)
  pub only : (y t : ℕ) → y ≤ n → front y < t → t ≤ later y → (0 < y) × (y < n) × InSection w n m y t

pub first-fronts : (w n : ℕ) → AreFronts w n 0 (risen n 0) (tent 0 n)
first-fronts w n = record {
  inside = λ y t a b s. let l = s.0 in let h = s.1 in (omega arith, omega arith);
  only = λ y t a b c. (omega arith, omega arith, (omega arith, omega arith));
}

-- a point above the triangles of a window is in none of a station's
above : (w n m i d t k : ℕ) → height n i ≤ d → m * w + w < t + height n i
    → t ≤ m * w + w + height n i → InStation w k d t → ⊥
above w n m i d t k near low high s =
    let a = s.after in
    let b = s.before in
    elim (cases_lt m k) [
      | inl l ↦ let more = mul-le-mul_left w l in absurd (omega arith)
      | inr l ↦ let le : k ≤ m = omega arith in let more = mul-le-mul_left w le in
          absurd (omega arith)
    ]

pub later-fronts : (w n m : ℕ) → AreFronts w n (suc m) (loaded (m * w) w n) (tent (m * w + w) n)
later-fronts w n m = record {
  inside = λ y t a b s.
      let lo = s.after in
      let hi = s.before in
      elim (cases_lt (m * w + w) (t + height n y)) [
        | inl l ↦ (omega arith, omega arith)
        | inr l ↦ elim (cases_lt (n - y) y) [
          | inl k ↦ absurd (s.right m (record { after = omega arith; before = omega arith }))
          | inr k ↦ absurd (s.left m (record { after = omega arith; before = omega arith }))
        ]
      ];
  only = λ y t a b c. (
    omega arith,
    omega arith,
    record {
      after = omega arith;
      before = omega arith;
      left = λ k s. above w n m y y t k (omega arith) (omega arith) (omega arith) s;
      right = λ k s. above w n m y (n - y) t k (omega arith) (omega arith) (omega arith) s;
    },
  );
}

-- ---- on the mesh

-- a stretch over a section
pub record IsOverSection (layout : Layout) (mesh : Mesh) (x p place n left right : ℕ)
    (stretch : Stretch) : Type 0 where
  pub there : x < length layout.shapes
  pub shape : shape_at layout x ≡ OfSection p place n left right
  pub over : IsStretchOf p place (base_of mesh p + place) (n + 1) stretch

stands : (layout : Layout) (mesh : Mesh) (x p place n left right : ℕ) → IsLawful layout mesh
    → x < length layout.shapes → shape_at layout x ≡ OfSection p place n left right
    → IsStanding mesh layout.window x (OfSection p place n left right)
stands layout mesh x p place n left right lawful h e =
    subst (IsStanding mesh layout.window x) e (lawful.touching.stands x h)

inside : (layout : Layout) (mesh : Mesh) (x m s k p place n left right : ℕ) (stretch : Stretch)
    (front later : ℕ → ℕ) (at : ProbeAt)
    → IsStretchOf p place (base_of mesh p + place) (n + 1) stretch
    → AreFronts layout.window n m front later → number_of mesh at ≡ k
    → InShape layout x m s (OfSection p place n left right) (spot_of at)
    → is_between stretch front later s k ≡ true
inside layout mesh x m s k p place n left right stretch front later (OnNode node) st f e r =
    absurd r
inside layout mesh x m s k p place n left right stretch front later (OnPipe q i) st f e r =
    let base : base_of mesh p ≡ base_of mesh q = ap (base_of mesh) r.0 in
    let low : place < i = r.1 in
    let high : i < place + n = r.2 in
    let number = st.number_is in
    let count = st.count_is in
    let y : i - place ≡ k - stretch.number = omega arith in
    let b = f.inside (i - place) s (omega arith) (omega arith) r.4 in
    between-in stretch front later s k (omega arith) (omega arith)
    (subst (λ (z : ℕ). front z < s) y b.0) (subst (λ (z : ℕ). s ≤ later z) y b.1)

pub section-marks : (layout : Layout) (mesh : Mesh) (x m p place n left right : ℕ)
    (stretch : Stretch) (front later : ℕ → ℕ) → IsLawful layout mesh
    → IsOverSection layout mesh x p place n left right stretch → m ≤ layout.windows
    → AreFronts layout.window n m front later
    → AreOfRegion layout mesh x m (is_between stretch front later)
section-marks layout mesh x m p place n left right stretch front later lawful over few f =
    let st = over.over in
    let number = st.number_is in
    let count = st.count_is in
    let on = stands layout mesh x p place n left right lawful over.there over.shape in
    let fits : place + n ≤ reaches mesh p = on.3 in
    record {
      inside = λ s k h some end r. inside layout mesh x m s k p place n left right stretch front
          later (place_at mesh k) st f (lawful.told.number k h)
          (subst (λ (q : Shape). InShape layout x m s q (spot_of (place_at mesh k))) over.shape r);
      there = λ s k h. let b = between-parts stretch front later s k h in let e = b.number in
          let t = b.there in
          place-below layout mesh p (place + b.place) k lawful on.0 (omega arith) (omega arith);
      later = λ s k h. let b = between-parts stretch front later s k h in let a = b.after in
          omega arith;
      only = λ s k h.
          let b = between-parts stretch front later s k h in
          let e = b.number in
          let t = b.there in
          let c = f.only b.place s (omega arith) b.after b.before in
          let low : 0 < b.place = c.0 in
          let high : b.place < n = c.1 in
          let same : b.place ≡ place + b.place - place = omega arith in
          let z = place-is layout mesh p (place + b.place) k lawful on.0 (omega arith) (omega arith)
          in
          subst (λ (q : Shape). InShape layout x m s q (spot_of (place_at mesh k))) (sym over.shape)
          (subst (λ (at : ProbeAt). InShape layout x m s (OfSection p place n left right)
          (spot_of at)) (sym z) (
            refl,
            omega arith,
            omega arith,
            few,
            subst (λ (i : ℕ). InSection layout.window n m i s) same c.2,
          ));
    }

-- region 0 of a section
pub owned-first : (layout : Layout) (mesh : Mesh) (x p place n left right : ℕ) (stretch : Stretch)
    → IsLawful layout mesh → IsOverSection layout mesh x p place n left right stretch
    → (s k : ℕ) → s ≤ layout.windows * layout.window
    → owned mesh layout.window x 1 s k ≡ or_marked (owned mesh layout.window x 0)
    (is_between stretch (risen n 0) (tent 0 n)) s k
owned-first layout mesh x p place n left right stretch lawful over =
    owned-next layout mesh x 0 (is_between stretch (risen n 0) (tent 0 n)) lawful over.there
    (section-marks layout mesh x 0 p place n left right stretch (risen n 0) (tent 0 n) lawful over
    (omega arith) (first-fronts layout.window n))

-- a later region of a section
pub owned-later_section : (layout : Layout) (mesh : Mesh) (x m p place n left right : ℕ)
    (stretch : Stretch) → IsLawful layout mesh
    → IsOverSection layout mesh x p place n left right stretch
    → m < layout.windows → (s k : ℕ) → s ≤ layout.windows * layout.window
    → owned mesh layout.window x (m + 2) s k
    ≡ or_marked (owned mesh layout.window x (m + 1))
    (is_between stretch (loaded (m * layout.window) layout.window n)
    (tent (m * layout.window + layout.window) n)) s k
owned-later_section layout mesh x m p place n left right stretch lawful over few s k end =
    let w : ℕ = layout.window in
    let front = loaded (m * w) w n in
    let later = tent (m * w + w) n in
    let one : suc m ≡ m + 1 = omega arith in
    let two : suc m + 1 ≡ m + 2 = omega arith in
    let e = owned-next layout mesh x (suc m) (is_between stretch front later) lawful over.there
    (section-marks layout mesh x (suc m) p place n left right stretch front later lawful over
    (omega arith) (later-fronts w n m)) s k end in
    ap (λ (c : ℕ). owned mesh w x c s k) (sym two) ∙ e
    ∙ ap (λ (c : ℕ). or_marked (owned mesh w x c) (is_between stretch front later) s k) one
