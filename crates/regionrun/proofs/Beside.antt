-- The places around a station: which section has them, and at which side.
use Rattle.std.proofs.Common.{◌≡◌, ℕ, ◌+◌, ◌-◌, ◌<◌, ◌≤◌, ◌⊎◌, inl, inr, false, length, refl, ap}
use Rattle.std.proofs.Common.{sym, subst, ◌∙◌, arith}
use Rattle.case_model.specs.declared.meshes.Mesh.{Mesh}
use Rattle.fronts.specs.Bands.{from_place}
use Rattle.regions.specs.declared.shapes.Layout.{Layout}
use Rattle.regions.specs.declared.shapes.Shape.{Shape}
use Rattle.regions.specs.declared.shapes.Shape.TheVariants.{OfNode, OfSeam, OfSection}
use Rattle.regions.specs.Regions.{InStation, InStationBy, InStations}
use Rattle.regions.specs.Sides.{shape_at, is_section, side_in, sides_of, side_of, back_of}
use Rattle.regions.specs.Touching.{IsStanding, station_pipe, station_place}
use Rattle.regionrun.specs.Lawful.{IsLawful}
use Rattle.regions.proofs.Joining.{sides-from}

-- strand x is a station
pub record IsStation (layout : Layout) (x : ℕ) : Type 0 where
  pub there : x < length layout.shapes
  pub kind : is_section layout x ≡ false

-- place i of pipe p lies at side c of station x, over the section there
pub record IsBeside (layout : Layout) (mesh : Mesh) (x c p i : ℕ) : Type 0 where
  pub index : c < sides_of layout mesh x
  pub pipe : station_pipe mesh c (shape_at layout x) ≡ p
  pub side : ((back_of layout mesh x c ≡ 0) × (station_place mesh c (shape_at layout x) ≤ i))
      ⊎ ((back_of layout mesh x c ≡ 1) × (i ≤ station_place mesh c (shape_at layout x)))

-- and in a triangle of the station
pub record IsInFan (layout : Layout) (mesh : Mesh) (x m p i t : ℕ) : Type 0 where
  pub c : ℕ
  pub beside : IsBeside layout mesh x c p i
  pub few : m < layout.windows
  pub at : InStation layout.window m (from_place (station_place mesh c (shape_at layout x)) i) t

-- ---- a section and the stations at its ends

record HasStation (layout : Layout) (mesh : Mesh) (j x q at : ℕ) : Type 0 where
  c : ℕ
  index : c < sides_of layout mesh x
  back : back_of layout mesh x c ≡ j
  pipe : station_pipe mesh c (shape_at layout x) ≡ q
  place : station_place mesh c (shape_at layout x) ≡ at

abbrev pipe_in : Shape → ℕ
pipe_in (OfNode node) = 0
pipe_in (OfSeam pipe place left right) = pipe
pipe_in (OfSection pipe place count left right) = pipe

abbrev place_in : Shape → ℕ
place_in (OfNode node) = 0
place_in (OfSeam pipe place left right) = place
place_in (OfSection pipe place count left right) = place

abbrev count_in : Shape → ℕ
count_in (OfNode node) = 0
count_in (OfSeam pipe place left right) = 0
count_in (OfSection pipe place count left right) = count

has-station : (layout : Layout) (mesh : Mesh) (x y j q place n left right at : ℕ)
    → IsLawful layout mesh → IsStation layout x
    → y < length layout.shapes → j < sides_of layout mesh y
    → shape_at layout y ≡ OfSection q place n left right → side_of layout mesh y j ≡ x
    → ((j ≡ 0) × (at ≡ place)) ⊎ ((j ≡ 1) × (at ≡ place + n)) → HasStation layout mesh j x q at
has-station layout mesh x y j q place n left right at lawful is h l e side meets =
    let c : ℕ = back_of layout mesh y j in
    let index : c < sides_of layout mesh x =
    subst (λ (z : ℕ). c < sides_of layout mesh z) side (lawful.sides.index y j h l) in
    let back : back_of layout mesh x c ≡ j =
    ap (λ (z : ℕ). back_of layout mesh z c) (sym side) ∙ lawful.sides.twice y j h l in
    let again : side_of layout mesh x c ≡ y =
    ap (λ (z : ℕ). side_of layout mesh z c) (sym side) ∙ lawful.sides.again y j h l in
    let touch = lawful.touching.touches x c is.there is.kind index in
    let same : OfSection (station_pipe mesh c (shape_at layout x)) touch.place touch.count
    touch.left touch.right ≡ OfSection q place n left right =
    sym touch.shape ∙ ap (shape_at layout) again ∙ e in
    let place_is : touch.place ≡ place = ap place_in same in
    let count_is : touch.count ≡ n = ap count_in same in
    record {
      c = c;
      index = index;
      back = back;
      pipe = ap pipe_in same;
      place = elim meets [
        | inl a ↦ elim touch.meets [
          | inl b ↦ let f = a.1 in let g = b.1 in omega arith
          | inr b ↦ let f = a.0 in let g = b.0 in absurd (omega arith)
        ]
        | inr a ↦ elim touch.meets [
          | inl b ↦ let f = a.0 in let g = b.0 in absurd (omega arith)
          | inr b ↦ let f = a.1 in let g = b.1 in omega arith
        ]
      ];
    }

pub side-from : (layout : Layout) (mesh : Mesh) (y j : ℕ) (s : Shape) → shape_at layout y ≡ s
    → side_of layout mesh y j ≡ side_in mesh layout.window j s
unfolding side_of
side-from layout mesh y j s e = ap (side_in mesh layout.window j) e

-- ---- the triangles of a station

fan-by : (layout : Layout) (mesh : Mesh) (x m p i t y : ℕ) (s : Shape) → IsLawful layout mesh
    → IsStation layout x → m < layout.windows → y < length layout.shapes
    → shape_at layout y ≡ s → InStationBy layout.window x m p i t s → IsInFan layout mesh x m p i t
fan-by layout mesh x m p i t y (OfNode node) lawful is few h e b = absurd b
fan-by layout mesh x m p i t y (OfSeam pipe place left right) lawful is few h e b = absurd b
fan-by layout mesh x m p i t y (OfSection q place n left right) lawful is few h e b =
    let two : sides_of layout mesh y ≡ 2 = sides-from layout mesh y _ e in
    let low : place ≤ i = b.1 in
    let high : i ≤ place + n = b.2 in
    elim b.3 [
      | inl a ↦
          let r = has-station layout mesh x y 0 q place n left right place lawful is h (omega arith)
          e (side-from layout mesh y 0 _ e ∙ a.0) (inl (refl, refl)) in
          let z = r.place in
          record {
            c = r.c;
            beside = record {
              index = r.index;
              pipe = r.pipe ∙ b.0;
              side =
                  inl (r.back, omega arith);
            };
            few = few;
            at = let d : i - place ≡ from_place (station_place mesh r.c (shape_at layout x)) i =
                omega arith in subst (λ (u : ℕ). InStation layout.window m u t) d a.1;
          }
      | inr a ↦
          let r = has-station layout mesh x y 1 q place n left right (place + n) lawful is h
          (omega arith) e (side-from layout mesh y 1 _ e ∙ a.0) (inr (refl, refl)) in
          let z = r.place in
          record {
            c = r.c;
            beside = record {
              index = r.index;
              pipe = r.pipe ∙ b.0;
              side =
                  inr (r.back, omega arith);
            };
            few = few;
            at = let d : place + n - i ≡ from_place (station_place mesh r.c (shape_at layout x)) i =
                omega arith in subst (λ (u : ℕ). InStation layout.window m u t) d a.1;
          }
    ]

pub stations-fan : (layout : Layout) (mesh : Mesh) (x m p i t : ℕ) → IsLawful layout mesh
    → IsStation layout x → InStations layout x m p i t → IsInFan layout mesh x m p i t
stations-fan layout mesh x m p i t lawful is st =
    fan-by layout mesh x m p i t st.section (shape_at layout st.section) lawful is st.region
    st.there refl st.by

pub fan-stations : (layout : Layout) (mesh : Mesh) (x m p i t : ℕ) → IsLawful layout mesh
    → IsStation layout x → IsInFan layout mesh x m p i t → InStations layout x m p i t
fan-stations layout mesh x m p i t lawful is f =
    let w : ℕ = layout.window in
    let c : ℕ = f.c in
    let at : ℕ = station_place mesh c (shape_at layout x) in
    let y : ℕ = side_of layout mesh x c in
    let there = lawful.sides.inside x c is.there f.beside.index in
    let again = lawful.sides.again x c is.there f.beside.index in
    let touch = lawful.touching.touches x c is.there is.kind f.beside.index in
    let on = subst (IsStanding mesh w y) touch.shape (lawful.touching.stands y there) in
    let long : w ≤ touch.count = on.2 in
    let after = f.at.after in
    let before = f.at.before in
    record {
      region = f.few;
      section = y;
      there = there;
      by = subst (InStationBy w x m p i t) (sym touch.shape) (elim f.beside.side [
        | inl a ↦ elim touch.meets [
          | inr b ↦ let u = a.0 in let v = b.0 in absurd (omega arith)
          | inl b ↦
              let z = b.1 in
              let l = a.1 in
              let left_is : touch.left ≡ x =
              sym (side-from layout mesh y 0 _ touch.shape)
              ∙ ap (side_of layout mesh y) (sym a.0) ∙ again in
              let d : from_place at i ≡ i - touch.place = omega arith in (
                f.beside.pipe,
                omega arith,
                omega arith,
                inl (left_is, subst (λ (u : ℕ). InStation w m u t) d f.at),
              )
        ]
        | inr a ↦ elim touch.meets [
          | inl b ↦ let u = a.0 in let v = b.0 in absurd (omega arith)
          | inr b ↦
              let z = b.1 in
              let l = a.1 in
              let right_is : touch.right ≡ x =
              sym (side-from layout mesh y 1 _ touch.shape)
              ∙ ap (side_of layout mesh y) (sym a.0) ∙ again in
              let d : from_place at i ≡ touch.place + touch.count - i = omega arith in (
                f.beside.pipe,
                omega arith,
                omega arith,
                inr (right_is, subst (λ (u : ℕ). InStation w m u t) d f.at),
              )
        ]
      ]);
    }
