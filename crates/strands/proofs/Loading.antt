-- A station's block that a section takes in.
use Rattle.std.proofs.Common.{◌≡◌, ℕ, ◌+◌, ◌-◌, ◌*◌, ◌/◌, ◌<◌, ◌≤◌, ◌⊎◌, inl, inr, ◌∙◌, ap, sym, subst, refl, arith, Bool, true, false, cond, max}
use Rattle.std.specs.Prelude.{◌≢◌, nat_eq}
use Rattle.std.proofs.lemmas.Bool.{eq-eqb, le-ltb, lt-ltb, ne_eqb}
use Rattle.case_model.specs.declared.points.Point.{Point}
use Rattle.case_model.specs.Meaning.{Meaning}
use Rattle.fronts.specs.Bands.{from_ends}
use Rattle.fronts.specs.Fronts.{Holds, Puts, ever, spot}
use Rattle.fronts.specs.Stretches.{AreSamePlaces, count_of}
use Rattle.fronts.specs.declared.stretches.Stretch.{Stretch}
use Rattle.fronts.proofs.Raising.{same-spot}
use Rattle.strands.specs.Blocks.{HasPoints, IsBare, from_end, loading, raised, station_side, station_step}

-- ---- the front while it is loaded

pub loaded-in : (left : Bool) (n w s d : ℕ) (front : ℕ → ℕ) (x : ℕ) → from_end left n x < d
    → loading left n w s d front x ≡ s + w - from_end left n x
loaded-in left n w s d front x h = rw (lt-ltb (from_end left n x) d h) refl

pub loaded-out : (left : Bool) (n w s d : ℕ) (front : ℕ → ℕ) (x : ℕ) → d ≤ from_end left n x
    → loading left n w s d front x ≡ front x
loaded-out left n w s d front x h = rw (le-ltb (from_end left n x) d h) refl

-- a place and a distance tell each other
pub place-is : (left : Bool) (n d x : ℕ) → d ≤ n → x ≤ n → from_end left n x ≡ d → x ≡ from_end left n d
place-is true n d x a b e = e
place-is false n d x a b e = omega arith

distance-is : (left : Bool) (n d : ℕ) → d ≤ n → from_end left n (from_end left n d) ≡ d
distance-is true n d a = refl
distance-is false n d a = omega arith

place-in : (left : Bool) (n d : ℕ) → d ≤ n → from_end left n d ≤ n
place-in true n d a = a
place-in false n d a = omega arith

-- another place keeps its front when the next distance is loaded
others-stay : (left : Bool) (n w s d : ℕ) (front : ℕ → ℕ) (x : ℕ) → d ≤ n → x ≤ n → x ≢ from_end left n d
    → loading left n w s (d + 1) front x ≡ loading left n w s d front x
others-stay left n w s d front x a b h = elim (below (from_end left n x) d) [
  | inl c ↦ loaded-in left n w s (d + 1) front x (omega arith) ∙ sym (loaded-in left n w s d front x c)
  | inr c ↦ elim c [
    | inl e ↦ absurd (h (place-is left n d x a b e))
    | inr e ↦ loaded-out left n w s (d + 1) front x (omega arith) ∙ sym (loaded-out left n w s d front x (omega arith))
  ]
]
  where
    below : (x y : ℕ) → (x < y) ⊎ ((x ≡ y) ⊎ (y < x))
    below x y = grind arith

-- ---- the points that are put

-- the earlier point of a pair: of the place itself nothing older is held
pub with : ℕ → ℕ → (ℕ → ℕ) → ℕ → ℕ
with place step front x = cond (nat_eq x place) step (front x)

pub with-here : (place step : ℕ) (front : ℕ → ℕ) → with place step front place ≡ step
unfolding with
with-here place step front = rw (eq-eqb place place refl) refl

pub with-there : (place step : ℕ) (front : ℕ → ℕ) (x : ℕ) → x ≢ place → with place step front x ≡ front x
unfolding with
with-there place step front x h = rw (ne_eqb x place h) refl

pub puts-earlier : (place step count : ℕ) (front : ℕ → ℕ)
    → Puts step place count ever front (with place step ever) (with place step front)
puts-earlier place step count front = record {
  here = with-here place step front;
  kept = λ t e l. let h = with-here place step ever in absurd (omega arith);
  beside = λ x b h. (with-there place step front x h, omega arith);
}

-- the facts of a distance
pub record IsAt (left : Bool) (n w s d place : ℕ) (front : ℕ → ℕ) : Type 0 where
  pub near : 2 * d < w
  pub long : w ≤ n
  pub place_is : place ≡ from_end left n d
  pub bare : IsBare left n w s front

front-here : (left : Bool) (n w s d place : ℕ) (front : ℕ → ℕ) → IsAt left n w s d place front
    → front place ≡ s + d
front-here left n w s d place front h =
    let near : 2 * d < w = h.near in
    let long : w ≤ n = h.long in
    let m : from_end left n place ≡ d = ap (from_end left n) h.place_is ∙ distance-is left n d (omega arith) in
    let p : place ≤ n = subst (λ z. z ≤ n) (sym h.place_is) (place-in left n d (omega arith)) in
    h.bare.near place p (omega arith) ∙ ap (λ z. s + z) m

loaded-here : (left : Bool) (n w s d place : ℕ) (front : ℕ → ℕ) → IsAt left n w s d place front
    → loading left n w s (d + 1) front place ≡ s + (w - d)
loaded-here left n w s d place front h =
    let near : 2 * d < w = h.near in
    let long : w ≤ n = h.long in
    let m : from_end left n place ≡ d = ap (from_end left n) h.place_is ∙ distance-is left n d (omega arith) in
    loaded-in left n w s (d + 1) front place (omega arith) ∙ omega arith

bare-here : (left : Bool) (n w s d place : ℕ) (front : ℕ → ℕ) → IsAt left n w s d place front
    → loading left n w s d front place ≡ front place
bare-here left n w s d place front h =
    let near : 2 * d < w = h.near in
    let long : w ≤ n = h.long in
    let m : from_end left n place ≡ d = ap (from_end left n) h.place_is ∙ distance-is left n d (omega arith) in
    loaded-out left n w s d front place (omega arith)

-- another place of the stretch keeps its front
stays : (left : Bool) (n w s d place count : ℕ) (front : ℕ → ℕ) → IsAt left n w s d place front
    → count ≡ n + 1 → (x : ℕ) → x < count → x ≢ place
    → loading left n w s (d + 1) front x ≡ loading left n w s d front x
stays left n w s d place count front h size x b k =
    let near : 2 * d < w = h.near in
    let long : w ≤ n = h.long in
    others-stay left n w s d front x (omega arith) (omega arith) (λ e. k (e ∙ sym h.place_is))

pub puts-later : (left : Bool) (n w s d place count : ℕ) (front : ℕ → ℕ)
    → IsAt left n w s d place front → count ≡ n + 1
    → Puts (s + (w - d)) place count (with place (s + (w - d) - 1) ever)
    (with place (s + (w - d) - 1) (loading left n w s d front)) ever (loading left n w s (d + 1) front)
puts-later left n w s d place count front h size = record {
  here = loaded-here left n w s d place front h;
  kept = λ t e l.
      let p = with-here place (s + (w - d) - 1) ever in
      let q = with-here place (s + (w - d) - 1) (loading left n w s d front) in
      (omega arith, omega arith, omega arith);
  beside = λ x b k.
      let p = with-there place (s + (w - d) - 1) ever x k in
      (stays left n w s d place count front h size x b k ∙ sym (with-there place (s + (w - d) - 1) (loading left n w s d front) x k), omega arith);
}

pub puts-alone : (left : Bool) (n w s d place count : ℕ) (front : ℕ → ℕ)
    → IsAt left n w s d place front → w ≤ 2 * d + 1 → count ≡ n + 1
    → Puts (s + (w - d)) place count ever (loading left n w s d front) ever (loading left n w s (d + 1) front)
puts-alone left n w s d place count front h b size =
    let near : 2 * d < w = h.near in
    let f : front place ≡ s + d = front-here left n w s d place front h in
    let l : loading left n w s d front place ≡ front place = bare-here left n w s d place front h in
    record {
      here = loaded-here left n w s d place front h;
      kept = λ t e z. (omega arith, omega arith, omega arith);
      beside = λ x b k. (stays left n w s d place count front h size x b k, omega arith);
    }

-- ---- the points of the block

pub step-first : (w s d : ℕ) → 2 * d + 1 < w → s + (w - d) - 1 ≡ s + station_step w (2 * d)
step-first w s d h = rw (ne_eqb (2 * d + 1) w (λ e. omega arith)) (omega arith)

pub step-second : (w s d : ℕ) → 2 * d + 1 < w → s + (w - d) ≡ s + station_step w (2 * d + 1)
step-second w s d h = elim (below (2 * d + 1 + 1) w) [
  | inl a ↦ rw (ne_eqb (2 * d + 1 + 1) w (λ e. omega arith)) (omega arith)
  | inr a ↦ rw (eq-eqb (2 * d + 1 + 1) w (omega arith)) (omega arith)
]
  where
    below : (x y : ℕ) → (x < y) ⊎ (y ≤ x)
    below x y = grind arith

pub step-alone : (w s d : ℕ) → 2 * d < w → w ≤ 2 * d + 1 → s + (w - d) ≡ s + station_step w (2 * d)
step-alone w s d h g = rw (eq-eqb (2 * d + 1) w (omega arith)) (omega arith)

-- a point was read as that of number j of a block
abbrev pub IsRead : (ℕ → Point → Type 0) → ℕ → Point → Type 0
IsRead tells j point = (p : Point) → tells j p → point ≡ p

-- point number j of the block is that of the rows
point-of : (law : Meaning) (stretch : Stretch) (left : Bool) (n w s d j step place : ℕ)
    (tells : ℕ → Point → Type 0) (point : Point)
    → count_of stretch ≡ n + 1 → j < w → j / 2 ≡ d → place ≡ from_end left n d
    → step ≡ s + station_step w j → HasPoints w (station_side law stretch left w s) tells
    → IsRead tells j point
    → point ≡ spot law stretch step place
unfolding station_side
point-of law stretch left n w s d j step place tells point size b half at e has is =
    let c : count_of stretch - 1 ≡ n = omega arith in
    is (station_side law stretch left w s j) (has.each j b)
    ∙ ap (λ z. spot law stretch (s + station_step w j) (from_end left z (j / 2))) c
    ∙ ap (λ z. spot law stretch (s + station_step w j) (from_end left n z)) half
    ∙ ap (spot law stretch (s + station_step w j)) (sym at)
    ∙ ap (λ t. spot law stretch t place) (sym e)

pub point-first : (law : Meaning) (stretch : Stretch) (left : Bool) (n w s d place : ℕ)
    (tells : ℕ → Point → Type 0) (point : Point)
    → count_of stretch ≡ n + 1 → 2 * d + 1 < w → place ≡ from_end left n d
    → HasPoints w (station_side law stretch left w s) tells
    → IsRead tells (2 * d) point
    → point ≡ spot law stretch (s + (w - d) - 1) place
point-first law stretch left n w s d place tells point size b at has is =
    point-of law stretch left n w s d (2 * d) (s + (w - d) - 1) place tells point size
    (omega arith) (omega arith) at (step-first w s d b) has is

pub point-second : (law : Meaning) (stretch : Stretch) (left : Bool) (n w s d place : ℕ)
    (tells : ℕ → Point → Type 0) (point : Point)
    → count_of stretch ≡ n + 1 → 2 * d + 1 < w → place ≡ from_end left n d
    → HasPoints w (station_side law stretch left w s) tells
    → IsRead tells (2 * d + 1) point
    → point ≡ spot law stretch (s + (w - d)) place
point-second law stretch left n w s d place tells point size b at has is =
    point-of law stretch left n w s d (2 * d + 1) (s + (w - d)) place tells point size b
    (omega arith) at (step-second w s d b) has is

pub point-alone : (law : Meaning) (stretch : Stretch) (left : Bool) (n w s d place : ℕ)
    (tells : ℕ → Point → Type 0) (point : Point)
    → count_of stretch ≡ n + 1 → 2 * d < w → w ≤ 2 * d + 1 → place ≡ from_end left n d
    → HasPoints w (station_side law stretch left w s) tells
    → IsRead tells (2 * d) point
    → point ≡ spot law stretch (s + (w - d)) place
point-alone law stretch left n w s d place tells point size b g at has is =
    point-of law stretch left n w s d (2 * d) (s + (w - d)) place tells point size b
    (omega arith) at (step-alone w s d b g) has is

-- ---- all distances

-- nothing is loaded at first
pub loading-none : (law : Meaning) (stretch : Stretch) (left : Bool) (n w s : ℕ) (front : ℕ → ℕ)
    → Holds law ever front stretch → Holds law ever (loading left n w s 0 front) stretch
loading-none law stretch left n w s front h = record {
  cell = λ t x b a f g.
      let e : loading left n w s 0 front x ≡ front x = loaded-out left n w s 0 front x (omega arith) in
      h.cell t x b a (omega arith) (omega arith);
}

bare-far : (left : Bool) (n w s x front : ℕ) → w ≤ n → x ≤ n → w ≤ 2 * from_end left n x → s + from_ends n x ≤ front
    → front ≡ max front (s + w - from_end left n x)
bare-far true n w s x front a b c d = omega arith
bare-far false n w s x front a b c d = omega arith

raised-is : (left : Bool) (n w s k : ℕ) (front : ℕ → ℕ) → IsBare left n w s front → (w + 1) / 2 ≡ k → w ≤ n
    → (x : ℕ) → x ≤ n → loading left n w s k front x ≡ raised left n w s front x
raised-is left n w s k front bare e a x b = elim (below (from_end left n x) k) [
  | inl c ↦
      let f : front x ≡ s + from_end left n x = bare.near x b (omega arith) in
      loaded-in left n w s k front x c ∙ omega arith
  | inr c ↦ loaded-out left n w s k front x c ∙ bare-far left n w s x (front x) a b (omega arith) (bare.far x b)
]
  where
    below : (x y : ℕ) → (x < y) ⊎ (y ≤ x)
    below x y = grind arith

pub loading-all : (law : Meaning) (stretch : Stretch) (left : Bool) (n w s k : ℕ) (front : ℕ → ℕ)
    → count_of stretch ≡ n + 1 → (w + 1) / 2 ≡ k → w ≤ n → IsBare left n w s front
    → Holds law ever (loading left n w s k front) stretch → Holds law ever (raised left n w s front) stretch
loading-all law stretch left n w s k front size e a bare h = record {
  cell = λ t x b z f g.
      let m : loading left n w s k front x ≡ raised left n w s front x = raised-is left n w s k front bare e a x (omega arith) in
      h.cell t x b z (subst (λ y. t ≤ y) (sym m) f) (subst (λ y. y ≤ t + 1) (sym m) g);
}

-- the block of a stretch of the same places
pub same-points : (law : Meaning) (old new : Stretch) (left : Bool) (w s : ℕ) (tells : ℕ → Point → Type 0)
    → AreSamePlaces old new
    → HasPoints w (station_side law old left w s) tells
    → HasPoints w (station_side law new left w s) tells
unfolding station_side
same-points law old new left w s tells same h = record {
  each = λ j b. subst (tells j)
      (ap (λ z. spot law old (s + station_step w j) (from_end left (z - 1) (j / 2)))
      (sym same.count_is)
      ∙ sym (same-spot law old new (s + station_step w j)
      (from_end left (count_of new - 1) (j / 2)) same)) (h.each j b);
}

pub end-inside : (left : Bool) (n d count : ℕ) → d ≤ n → count ≡ n + 1 → from_end left n d < count
end-inside left n d count a e = let p : from_end left n d ≤ n = place-in left n d a in omega arith
