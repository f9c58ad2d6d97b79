-- What the regions of a seam own lies between two fronts of its stretch.
use Rattle.std.proofs.Common.{◌≡◌, ℕ, ◌+◌, ◌-◌, ◌*◌, ◌<◌, ◌≤◌, inl, inr, true, length, ap, sym}
use Rattle.std.proofs.Common.{subst, ◌∙◌, arith}
use Rattle.std.proofs.lemmas.Bool.{cases_lt}
use Rattle.case_model.specs.declared.cases.ProbeAt.{ProbeAt}
use Rattle.case_model.specs.declared.cases.ProbeAt.TheVariants.{OnPipe, OnNode}
use Rattle.case_model.specs.declared.meshes.Mesh.{Mesh}
use Rattle.case_model.specs.Mesh.{base_of, reaches}
use Rattle.case_model.specs.PlaceNumbers.{number_of, place_at}
use Rattle.fronts.specs.Bands.{from_place}
use Rattle.fronts.specs.Fronts.{fan}
use Rattle.fronts.specs.Stretches.{IsStretchOf}
use Rattle.fronts.specs.declared.stretches.Stretch.{Stretch}
use Rattle.regions.specs.declared.shapes.Layout.{Layout}
use Rattle.regions.specs.declared.shapes.Shape.{Shape}
use Rattle.regions.specs.declared.shapes.Shape.TheVariants.{OfSeam}
use Rattle.regions.specs.Regions.{InShape, InStation}
use Rattle.regions.specs.Sides.{back_in, back_of, is_section_shape, shape_at}
use Rattle.regions.specs.Touching.{IsStanding, station_pipe, station_place}
use Rattle.strands.specs.Marks.{is_between, or_marked}
use Rattle.strands.specs.Stations.{half, seam_front}
use Rattle.regionrun.specs.Lawful.{IsLawful}
use Rattle.regionrun.specs.Owned.{AreOfRegion, owned, spot_of}
use Rattle.regionrun.proofs.Beside.{IsBeside, IsStation, fan-stations, stations-fan}
use Rattle.regionrun.proofs.Owning.{owned-next}
use Rattle.regionrun.proofs.Spots.{between-parts, place-below, place-is}
use Rattle.regions.proofs.Joining.{sides-from}
use Rattle.strands.proofs.Marking.{between-in}

-- ---- the triangle at distance d from a station

pub fan-in : (w m d t : ℕ) → 1 ≤ w → InStation w m d t
    → (d ≤ half w) × (2 * d < w) × (fan (m * w) w 0 d < t) × (t ≤ fan (m * w) w w d)
fan-in w m d t some s = let a = s.after in let b = s.before in
    (omega arith, omega arith, omega arith, omega arith)

pub fan-only : (w m d t : ℕ) → 1 ≤ w → d ≤ half w → fan (m * w) w 0 d < t → t ≤ fan (m * w) w w d
    → InStation w m d t
fan-only w m d t some far a b = record { after = omega arith; before = omega arith }

-- ---- on the mesh

-- a stretch around a seam
pub record IsOverSeam (layout : Layout) (mesh : Mesh) (x p q left right : ℕ)
    (stretch : Stretch) : Type 0 where
  pub there : x < length layout.shapes
  pub shape : shape_at layout x ≡ OfSeam p q left right
  pub over : IsStretchOf p (q - half layout.window) (base_of mesh p + q - half layout.window)
      (2 * half layout.window + 1) stretch

pub seam-station : (layout : Layout) (x p q left right : ℕ) → x < length layout.shapes
    → shape_at layout x ≡ OfSeam p q left right → IsStation layout x
seam-station layout x p q left right h e = record { there = h; kind = ap is_section_shape e }

pub seam-stands : (layout : Layout) (mesh : Mesh) (x p q left right : ℕ) → IsLawful layout mesh
    → x < length layout.shapes → shape_at layout x ≡ OfSeam p q left right
    → IsStanding mesh layout.window x (OfSeam p q left right)
seam-stands layout mesh x p q left right lawful h e =
    subst (IsStanding mesh layout.window x) e (lawful.touching.stands x h)

back-at : (layout : Layout) (mesh : Mesh) (x c p q left right : ℕ)
    → shape_at layout x ≡ OfSeam p q left right
    → back_of layout mesh x c ≡ back_in layout mesh c (OfSeam p q left right)
unfolding back_of
back-at layout mesh x c p q left right e = ap (back_in layout mesh c) e

-- each place of its pipe lies at one of its sides
pub seam-beside : (layout : Layout) (mesh : Mesh) (x p q left right i : ℕ)
    → shape_at layout x ≡ OfSeam p q left right
    → (c : ℕ) × IsBeside layout mesh x c p i × (station_place mesh c (shape_at layout x) ≡ q)
seam-beside layout mesh x p q left right i e =
    let two = sides-from layout mesh x _ e in
    let at : (c : ℕ) → station_place mesh c (shape_at layout x) ≡ q =
    λ c. ap (station_place mesh c) e in
    let pipe : (c : ℕ) → station_pipe mesh c (shape_at layout x) ≡ p =
    λ c. ap (station_pipe mesh c) e in
    elim (cases_lt i q) [
      | inl l ↦ (
        0,
        record {
          index = omega arith;
          pipe = pipe 0;
          side =
              inr (back-at layout mesh x 0 p q left right e, (let z = at 0 in omega arith));
        },
        at 0,
      )
      | inr l ↦ (
        1,
        record {
          index = omega arith;
          pipe = pipe 1;
          side =
              inl (back-at layout mesh x 1 p q left right e, (let z = at 1 in omega arith));
        },
        at 1,
      )
    ]

inside : (layout : Layout) (mesh : Mesh) (x m s k p q left right : ℕ) (stretch : Stretch)
    (at : ProbeAt) → IsLawful layout mesh
    → IsOverSeam layout mesh x p q left right stretch → number_of mesh at ≡ k
    → InShape layout x m s (OfSeam p q left right) (spot_of at)
    → is_between stretch (seam_front layout.window (m * layout.window) 0)
    (seam_front layout.window (m * layout.window) layout.window) s k ≡ true
inside layout mesh x m s k p q left right stretch (OnNode node) lawful over e r = absurd r
inside layout mesh x m s k p q left right stretch (OnPipe o i) lawful over e r =
    let w : ℕ = layout.window in
    let f = stations-fan layout mesh x m o i s lawful
    (seam-station layout x p q left right over.there over.shape) r in
    let at : station_place mesh f.c (shape_at layout x) ≡ q =
    ap (station_place mesh f.c) over.shape in
    let pipe : p ≡ o = sym (ap (station_pipe mesh f.c) over.shape) ∙ f.beside.pipe in
    let base : base_of mesh p ≡ base_of mesh o = ap (base_of mesh) pipe in
    let number = over.over.number_is in
    let count = over.over.count_is in
    let on = seam-stands layout mesh x p q left right lawful over.there over.shape in
    let room : half w ≤ q = on.1 in
    let b = fan-in w m (from_place q i) s lawful.whole.some
    (subst (λ (u : ℕ). InStation w m (from_place u i) s) at f.at) in
    let near : from_place q i ≤ half w = b.0 in
    let d : from_place q i ≡ from_place (half w) (k - stretch.number) = omega arith in
    between-in stretch (seam_front w (m * w) 0) (seam_front w (m * w) w) s k (omega arith)
    (omega arith)
    (subst (λ (u : ℕ). fan (m * w) w 0 u < s) d b.2)
    (subst (λ (u : ℕ). s ≤ fan (m * w) w w u) d b.3)

pub seam-marks : (layout : Layout) (mesh : Mesh) (x m p q left right : ℕ) (stretch : Stretch)
    → IsLawful layout mesh → IsOverSeam layout mesh x p q left right stretch
    → m < layout.windows
    → AreOfRegion layout mesh x m (is_between stretch
    (seam_front layout.window (m * layout.window) 0)
    (seam_front layout.window (m * layout.window) layout.window))
seam-marks layout mesh x m p q left right stretch lawful over few =
    let w : ℕ = layout.window in
    let front : ℕ → ℕ = seam_front w (m * w) 0 in
    let later : ℕ → ℕ = seam_front w (m * w) w in
    let number = over.over.number_is in
    let count = over.over.count_is in
    let on = seam-stands layout mesh x p q left right lawful over.there over.shape in
    let low : half w ≤ q = on.1 in
    let high : q + half w ≤ reaches mesh p = on.2 in
    record {
      inside = λ s k h some end r. inside layout mesh x m s k p q left right stretch
          (place_at mesh k) lawful over (lawful.told.number k h)
          (subst (λ (z : Shape). InShape layout x m s z (spot_of (place_at mesh k))) over.shape r);
      there = λ s k h. let b = between-parts stretch front later s k h in let e = b.number in
          let t = b.there in
          place-below layout mesh p (q - half w + b.place) k lawful on.0 (omega arith)
          (omega arith);
      later = λ s k h. let b = between-parts stretch front later s k h in let a = b.after in
          omega arith;
      only = λ s k h.
          let b = between-parts stretch front later s k h in
          let e = b.number in
          let t = b.there in
          let i : ℕ = q - half w + b.place in
          let z = place-is layout mesh p i k lawful on.0 (omega arith) (omega arith) in
          let d : from_place (half w) b.place ≡ from_place q i = omega arith in
          let c = seam-beside layout mesh x p q left right i over.shape in
          let s_in = fan-only w m (from_place (half w) b.place) s lawful.whole.some (omega arith)
          b.after b.before in
          subst (λ (u : Shape). InShape layout x m s u (spot_of (place_at mesh k))) (sym over.shape)
          (subst (λ (at : ProbeAt). InShape layout x m s (OfSeam p q left right) (spot_of at))
          (sym z)
          (fan-stations layout mesh x m p i s lawful
          (seam-station layout x p q left right over.there over.shape)
          (record {
            c = c.0;
            beside = c.1;
            few = few;
            at =
                subst (λ (u : ℕ). InStation w m (from_place u i) s) (sym c.2)
                (subst (λ (u : ℕ). InStation w m u s) d s_in);
          })));
    }

-- a region of a seam
pub owned-seam : (layout : Layout) (mesh : Mesh) (x m p q left right : ℕ) (stretch : Stretch)
    → IsLawful layout mesh → IsOverSeam layout mesh x p q left right stretch
    → m < layout.windows → (s k : ℕ) → s ≤ layout.windows * layout.window
    → owned mesh layout.window x (m + 1) s k
    ≡ or_marked (owned mesh layout.window x m)
    (is_between stretch (seam_front layout.window (m * layout.window) 0)
    (seam_front layout.window (m * layout.window) layout.window)) s k
owned-seam layout mesh x m p q left right stretch lawful over few =
    owned-next layout mesh x m (is_between stretch (seam_front layout.window (m * layout.window) 0)
    (seam_front layout.window (m * layout.window) layout.window)) lawful over.there
    (seam-marks layout mesh x m p q left right stretch lawful over few)
