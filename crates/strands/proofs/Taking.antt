-- The blocks of a station: what it takes in, distance by distance, and what it hands on.
use Rattle.std.specs.Prelude.{◌==◌}
use Rattle.std.proofs.Common.{◌≡◌, ℕ, ◌+◌, ◌-◌, ◌*◌, ◌/◌, ◌<◌, ◌≤◌, inl, inr, ◌∙◌, ap, sym}
use Rattle.std.proofs.Common.{refl, arith, subst, Bool, true, false, if◌then◌else◌}
use Rattle.std.specs.Prelude.{◌≢◌}
use Rattle.std.proofs.Math.Bool.{and-false}
use Rattle.std.proofs.lemmas.Bool.{eq-eqb, le-leb, le-ltb, lt-leb, lt-ltb, ne_eqb, cases_lt}
use Rattle.case_model.specs.declared.points.Point.{Point}
use Rattle.case_model.specs.Meaning.{Meaning}
use Rattle.fronts.specs.Bands.{from_place}
use Rattle.fronts.specs.Fronts.{Holds, Puts, fan, fan_since, spot}
use Rattle.fronts.specs.Stretches.{AreSamePlaces, count_of, kept}
use Rattle.fronts.specs.declared.stretches.Stretch.{Stretch}
use Rattle.fronts.proofs.Raising.{same-spot}
use Rattle.strands.proofs.Loading.{IsRead, with, with-here, with-there}
use Rattle.strands.specs.Beside.{HasBeside, IsTriangle, beside, inner_side, is_beside, outer_side}
use Rattle.strands.specs.Beside.{station_tells, taken_front, taken_since}
use Rattle.strands.specs.Blocks.{HasPoints, station_step}
use Rattle.strands.specs.declared.handed.StationBlock.{StationBlock}

-- ---- places beside a station

pub nearer : (right : Bool) (at far d count : ℕ) → HasBeside right at far count → d ≤ far
    → HasBeside right at d count
nearer true at far d count h a = omega arith
nearer false at far d count h a = let b : far ≤ at = h.0 in (omega arith, h.1)

pub place-inside : (right : Bool) (at d count : ℕ) → HasBeside right at d count
    → beside right at d < count
place-inside true at d count h = h
place-inside false at d count h = let a : d ≤ at = h.0 in let b : at < count = h.1 in omega arith

distance-of : (right : Bool) (at d count : ℕ) → HasBeside right at d count
    → from_place at (beside right at d) ≡ d
distance-of true at d count h = omega arith
distance-of false at d count h = let a : d ≤ at = h.0 in omega arith

is-in : (right : Bool) (at d count : ℕ) → 1 ≤ d → HasBeside right at d count
    → is_beside right at d (beside right at d) ≡ true
is-in true at d count a h =
    rw (lt-ltb at (at + d) (omega arith), le-leb (at + d) (at + d) (omega arith)) refl
is-in false at d count a h =
    let b : d ≤ at = h.0 in
    rw (lt-ltb (at - d) at (omega arith), le-leb at (at - d + d) (omega arith)) refl

-- at another place one more distance changes nothing
is-as : (right : Bool) (at d count x : ℕ) → 1 ≤ d → HasBeside right at d count
    → x ≢ beside right at d
    → is_beside right at d x ≡ is_beside right at (d - 1) x
is-as true at d count x a h k = elim (cases_lt at x) [
  | inr b ↦ rw (le-ltb at x b) refl
  | inl b ↦ elim (cases_lt x (at + d)) [
    | inl c ↦ rw (le-leb x (at + d) (omega arith), le-leb x (at + (d - 1)) (omega arith)) refl
    | inr c ↦
        let e : at + d < x = omega arith in
        rw (lt-leb x (at + d) e, lt-leb x (at + (d - 1)) (omega arith)) refl
  ]
]
is-as false at d count x a h k = elim (cases_lt x at) [
  | inr b ↦ rw (le-ltb x at b) refl
  | inl b ↦
      let g : d ≤ at = h.0 in
      elim (cases_lt at (x + d)) [
        | inl c ↦ rw (le-leb at (x + d) (omega arith), le-leb at (x + (d - 1)) (omega arith)) refl
        | inr c ↦
            let e : x + d < at = omega arith in
            rw (lt-leb at (x + d) e, lt-leb at (x + (d - 1)) (omega arith)) refl
      ]
]

is-none : (right : Bool) (at x : ℕ) → is_beside right at 0 x ≡ false
is-none true at x = elim (cases_lt at x) [
  | inr b ↦ rw (le-ltb at x b) refl
  | inl b ↦ rw (lt-leb x (at + 0) (omega arith), and-false) refl
]
is-none false at x = elim (cases_lt x at) [
  | inr b ↦ rw (le-ltb x at b) refl
  | inl b ↦ rw (lt-leb at (x + 0) (omega arith), and-false) refl
]

-- ---- the front while the section's points are taken in

front-here : (right : Bool) (at w s d count place : ℕ) (front : ℕ → ℕ) → 1 ≤ d
    → HasBeside right at d count
    → place ≡ beside right at d → taken_front right at w s d front place ≡ fan s w 0 d
front-here right at w s d count place front a h e =
    ap (taken_front right at w s d front) e
    ∙ rw (is-in right at d count a h) (ap (fan s w 0) (distance-of right at d count h))

since-here : (right : Bool) (at s d count place : ℕ) (since : ℕ → ℕ) → 1 ≤ d
    → HasBeside right at d count
    → place ≡ beside right at d → taken_since right at s d since place ≡ fan_since s d
since-here right at s d count place since a h e =
    ap (taken_since right at s d since) e
    ∙ rw (is-in right at d count a h) (ap (fan_since s) (distance-of right at d count h))

front-there : (right : Bool) (at w s d count place x : ℕ) (front : ℕ → ℕ) → 1 ≤ d
    → HasBeside right at d count
    → place ≡ beside right at d → x ≢ place
    → taken_front right at w s d front x ≡ taken_front right at w s (d - 1) front x
front-there right at w s d count place x front a h e k =
    rw (is-as right at d count x a h (λ z. k (z ∙ sym e))) refl

since-there : (right : Bool) (at s d count place x : ℕ) (since : ℕ → ℕ) → 1 ≤ d
    → HasBeside right at d count
    → place ≡ beside right at d → x ≢ place
    → taken_since right at s d since x ≡ taken_since right at s (d - 1) since x
since-there right at s d count place x since a h e k =
    rw (is-as right at d count x a h (λ z. k (z ∙ sym e))) refl

-- the facts of a distance
pub record IsNear (right : Bool) (at w d count place : ℕ) : Type 0 where
  pub some : 1 ≤ d
  pub near : 2 * d ≤ w + 1
  pub has : HasBeside right at d count
  pub place_is : place ≡ beside right at d

-- the earlier point of a pair: of the place itself nothing older is held
pub puts-new : (place step count : ℕ) (since front : ℕ → ℕ)
    → Puts step place count since front (with place step since) (with place step front)
puts-new place step count since front = record {
  here = with-here place step front;
  kept = λ t e l. let h = with-here place step since in absurd (omega arith);
  beside =
      λ x b h. let e = with-there place step since x h in
      (with-there place step front x h, omega arith);
}

pub puts-pair : (right : Bool) (at w s d count place : ℕ) (since front : ℕ → ℕ)
    → IsNear right at w d count place
    → 2 * d - 1 < w
    → Puts (s + (d - 1) + 1) place count
    (with place (s + (d - 1)) (taken_since right at s (d - 1) since))
    (with place (s + (d - 1)) (taken_front right at w s (d - 1) front))
    (taken_since right at s d since) (taken_front right at w s d front)
puts-pair right at w s d count place since front is b =
    let a : 1 ≤ d = is.some in
    let f : taken_front right at w s d front place ≡ fan s w 0 d =
    front-here right at w s d count place front a is.has is.place_is in
    let g : taken_since right at s d since place ≡ fan_since s d =
    since-here right at s d count place since a is.has is.place_is in
    record {
      here = f ∙ omega arith;
      kept = λ t e l.
          let p = with-here place (s + (d - 1)) (taken_since right at s (d - 1) since) in
          let q = with-here place (s + (d - 1)) (taken_front right at w s (d - 1) front) in
          (omega arith, omega arith, omega arith);
      beside = λ x c k.
          let p = with-there place (s + (d - 1)) (taken_since right at s (d - 1) since) x k in
          let q = since-there right at s d count place x since a is.has is.place_is k in (
            front-there right at w s d count place x front a is.has is.place_is k
                ∙ sym (with-there place (s + (d - 1)) (taken_front right at w s (d - 1) front) x k),
            omega arith,
          );
    }

pub puts-one : (right : Bool) (at w s d count place : ℕ) (since front : ℕ → ℕ)
    → IsNear right at w d count place
    → w ≤ 2 * d - 1
    → Puts (s + (d - 1)) place count
    (taken_since right at s (d - 1) since) (taken_front right at w s (d - 1) front)
    (taken_since right at s d since) (taken_front right at w s d front)
puts-one right at w s d count place since front is b =
    let a : 1 ≤ d = is.some in
    let n : 2 * d ≤ w + 1 = is.near in
    let f : taken_front right at w s d front place ≡ fan s w 0 d =
    front-here right at w s d count place front a is.has is.place_is in
    let g : taken_since right at s d since place ≡ fan_since s d =
    since-here right at s d count place since a is.has is.place_is in
    record {
      here = f ∙ omega arith;
      kept = λ t e l. absurd (omega arith);
      beside = λ x c k.
          let q = since-there right at s d count place x since a is.has is.place_is k in
          (front-there right at w s d count place x front a is.has is.place_is k, omega arith);
    }

-- ---- the points of the block

-- point number j of the block is that of the rows
outer-point : (law : Meaning) (stretch : Stretch) (right : Bool) (at w s d j step place : ℕ)
    (tells : ℕ → Point → Type 0) (point : Point)
    → j < w → j / 2 + 1 ≡ d → place ≡ beside right at d → step ≡ s + (j + 1) / 2
    → HasPoints w (outer_side law stretch right at s) tells
    → IsRead tells j point
    → point ≡ spot law stretch step place
unfolding outer_side
outer-point law stretch right at w s d j step place tells point b half is e has read =
    read (outer_side law stretch right at s j) (has.each j b)
    ∙ ap (λ z. spot law stretch (s + (j + 1) / 2) (beside right at z)) half
    ∙ ap (spot law stretch (s + (j + 1) / 2)) (sym is)
    ∙ ap (λ t. spot law stretch t place) (sym e)

pub outer-first : (law : Meaning) (stretch : Stretch) (right : Bool) (at w s d count place : ℕ)
    (tells : ℕ → Point → Type 0) (point : Point)
    → IsNear right at w d count place
    → HasPoints w (outer_side law stretch right at s) tells
    → IsRead tells (2 * (d - 1)) point
    → point ≡ spot law stretch (s + (d - 1)) place
outer-first law stretch right at w s d count place tells point is has read =
    let a : 1 ≤ d = is.some in
    let n : 2 * d ≤ w + 1 = is.near in
    outer-point law stretch right at w s d (2 * (d - 1)) (s + (d - 1)) place tells point
    (omega arith) (omega arith)
    is.place_is (omega arith) has read

pub outer-second : (law : Meaning) (stretch : Stretch) (right : Bool) (at w s d count place : ℕ)
    (tells : ℕ → Point → Type 0) (point : Point)
    → IsNear right at w d count place → 2 * (d - 1) + 1 < w
    → HasPoints w (outer_side law stretch right at s) tells
    → IsRead tells (2 * (d - 1) + 1) point
    → point ≡ spot law stretch (s + (d - 1) + 1) place
outer-second law stretch right at w s d count place tells point is b has read =
    let a : 1 ≤ d = is.some in
    outer-point law stretch right at w s d (2 * (d - 1) + 1) (s + (d - 1) + 1) place tells point b
    (omega arith)
    is.place_is (omega arith) has read

-- the block of a stretch of the same places
pub same-outer : (law : Meaning) (old new : Stretch) (right : Bool) (at w s : ℕ)
    (tells : ℕ → Point → Type 0)
    → AreSamePlaces old new
    → HasPoints w (outer_side law old right at s) tells
    → HasPoints w (outer_side law new right at s) tells
unfolding outer_side
same-outer law old new right at w s tells same h = record {
  each = λ j b. subst (tells j)
      (sym (same-spot law old new (s + (j + 1) / 2) (beside right at (j / 2 + 1)) same))
      (h.each j b);
}

-- ---- all distances

pub taken-none : (law : Meaning) (stretch : Stretch) (right : Bool) (at w s : ℕ)
    (since front : ℕ → ℕ)
    → Holds law since front stretch
    → Holds law (taken_since right at s 0 since) (taken_front right at w s 0 front) stretch
taken-none law stretch right at w s since front h = record {
  cell = λ t x b a f g.
      let n : is_beside right at 0 x ≡ false = is-none right at x in
      let d : taken_front right at w s 0 front x ≡ front x = rw n refl in
      let e : taken_since right at s 0 since x ≡ since x = rw n refl in
      h.cell t x b (omega arith) (omega arith) (omega arith);
}

-- ---- what the station hands on

step-of : (w s j : ℕ) → j < w
    → (s + (w - 1 - j / 2) ≤ s + station_step w j) × (s + station_step w j ≤ s + (w - j / 2))
step-of w s j b = elim (cases_lt (j + 1) w) [
  | inl a ↦ rw (ne_eqb (j + 1) w (λ e. omega arith)) (omega arith, omega arith)
  | inr a ↦ rw (eq-eqb (j + 1) w (omega arith)) (omega arith, omega arith)
]

inner-more : (law : Meaning) (stretch : Stretch) (right : Bool) (at w s j : ℕ) (since front : ℕ → ℕ)
    → HasBeside right at ((w - 1) / 2) (count_of stretch) → j < w
    → IsTriangle right at w s since front → Holds law since front stretch
    → kept stretch (s + station_step w j) (beside right at (j / 2))
    ≡ spot law stretch (s + station_step w j) (beside right at (j / 2))
inner-more law stretch right at w s j since front a b is h =
    let t = step-of w s j b in
    let low : s + (w - 1 - j / 2) ≤ s + station_step w j = t.0 in
    let high : s + station_step w j ≤ s + (w - j / 2) = t.1 in
    let f : front (beside right at (j / 2)) ≡ s + (w - j / 2) = is.front_is (j / 2) (omega arith) in
    let g : since (beside right at (j / 2)) ≤ s + j / 2 = is.since_is (j / 2) (omega arith) in
    h.cell (s + station_step w j) (beside right at (j / 2))
    (place-inside right at (j / 2) (count_of stretch)
    (nearer right at ((w - 1) / 2) (j / 2) (count_of stretch) a (omega arith)))
    (omega arith) (omega arith) (omega arith)

-- the block that a station lends
pub inner-lent : (law : Meaning) (block : StationBlock) (right : Bool) (since front : ℕ → ℕ)
    → (block.right == 1) ≡ right → HasBeside right block.at ((block.window - 1) / 2) (count_of block.stretch.now)
    → IsTriangle right block.at block.window block.start since front
    → Holds law since front block.stretch.now
    → HasPoints block.window
    (inner_side law block.stretch.now right block.at block.window block.start)
    (station_tells block)
unfolding inner_side station_tells
inner-lent law block right since front flag inside is h = record {
  each = λ j b.
      ap (λ (z : Bool). kept block.stretch.now (block.start + station_step block.window j) (beside z block.at (j / 2))) flag
      ∙ inner-more law block.stretch.now right block.at block.window block.start j since front inside b is h;
}

-- a side of a station has so many places if those at that side are there
pub room-beside : (right : Bool) (at far count : ℕ)
    → HasBeside right at far count
    → (at + (if right then far else 0) < count) × ((if right then 0 else far) ≤ at)
room-beside true at far count h = (omega arith, omega arith)
room-beside false at far count h = let low : far ≤ at = h.0 in (omega arith, omega arith)

-- and then it has those of the points of its block
pub has-beside : (right : Bool) (at far count d : ℕ)
    → at + (if right then far else 0) < count → (if right then 0 else far) ≤ at → d ≤ far
    → HasBeside right at d count
has-beside true at far count d a b c = omega arith
has-beside false at far count d a b c = (omega arith, omega arith)
