-- Points of a block that are laid into a stretch all at once.
use Rattle.std.specs.Prelude.{◌==◌, ◌%◌, not}
use Rattle.std.proofs.Common.{◌≡◌, ℕ, ◌+◌, ◌-◌, ◌*◌, ◌/◌, ◌<◌, ◌≤◌, ◌⊎◌, inl, inr, ◌∙◌, ap, sym}
use Rattle.std.proofs.Common.{refl, arith, Bool, true, false, if◌then◌else◌}
use Rattle.std.proofs.Math.Bool.{and-false, beq}
use Rattle.std.proofs.lemmas.Bool.{eq-eqb, le-leb, le-ltb, lt-leb, lt-ltb, ne_eqb, cases_lt}
use Rattle.case_model.specs.declared.points.Point.{Point}
use Rattle.case_model.specs.Meaning.{Meaning}
use Rattle.fronts.specs.Bands.{from_place}
use Rattle.fronts.specs.Fronts.{Holds, ever, fan, spot}
use Rattle.fronts.specs.Rows.{IsTaken}
use Rattle.fronts.specs.Stretches.{AreSamePlaces, count_of, is_even, kept, kept_in}
use Rattle.fronts.specs.declared.stretches.Stretch.{Stretch}
use Rattle.fronts.proofs.Raising.{same-spot, which}
use Rattle.fronts.proofs.Stepping.{next-parity}
use Rattle.strands.proofs.Loading.{loaded-in, loaded-out, place-is, point-first, point-second}
use Rattle.strands.proofs.Pairing.{earlier-step, later-step}
use Rattle.strands.proofs.Taking.{IsNear, nearer, outer-first, outer-second}
use Rattle.strands.specs.Beside.{HasBeside, beside, is_beside, outer_side, station_tells}
use Rattle.strands.specs.Beside.{taken_front, taken_since}
use Rattle.strands.specs.Blocks.{HasPoints, from_end, loading, section_tells, station_side}
use Rattle.strands.specs.Blocks.{station_step}
use Rattle.strands.specs.Laid.{AreLaid, in_turn}
use Rattle.strands.specs.declared.handed.SectionBlock.{SectionBlock}
use Rattle.strands.specs.declared.handed.StationBlock.{StationBlock}

-- ---- parities

two : (t : ℕ) → (t % 2 ≡ 0) ⊎ (t % 2 ≡ 1)
two t = grind arith

even-of : (a b : ℕ) → a % 2 ≡ b % 2 → is_even a ≡ is_even b
even-of a b e = ap (λ z. z == 0) e

distinct : {x y : Bool} → x ≡ true → y ≡ false → x ≡ y → ⊥
distinct a b e = cc

rest-of : (a b : ℕ) → is_even a ≡ is_even b → a % 2 ≡ b % 2
rest-of a b e = elim (two a) [
  | inl p ↦ elim (two b) [
    | inl q ↦ p ∙ sym q
    | inr q ↦ absurd (distinct (eq-eqb (a % 2) 0 p) (ne_eqb (b % 2) 0 (λ z. omega arith)) e)
  ]
  | inr p ↦ elim (two b) [
    | inl q ↦ absurd (distinct (eq-eqb (b % 2) 0 q) (ne_eqb (a % 2) 0 (λ z. omega arith)) (sym e))
    | inr q ↦ p ∙ sym q
  ]
]

-- the parity of the step after an odd or an even one
pub next-odd : (a : ℕ) → (a % 2 == 1) ≡ is_even (a + 1)
next-odd a = elim (two a) [
  | inl p ↦ rw (ne_eqb (a % 2) 1 (λ z. omega arith), ne_eqb ((a + 1) % 2) 0 (λ z. omega arith)) refl
  | inr p ↦ rw (eq-eqb (a % 2) 1 p, eq-eqb ((a + 1) % 2) 0 (omega arith)) refl
]

-- flags that are compared
pub same-flag : (a b : Bool) → not (beq a b) ≡ false → a ≡ b
same-flag true true e = refl
same-flag true false e = cc
same-flag false true e = cc
same-flag false false e = refl

other-flag : (a b : Bool) → beq a b ≡ false → a ≡ not b
other-flag true true e = cc
other-flag true false e = refl
other-flag false true e = refl
other-flag false false e = cc

pub other-parity : (even : Bool) (a : ℕ) → beq even (is_even a) ≡ false → even ≡ is_even (a + 1)
other-parity even a e = other-flag even (is_even a) e ∙ sym (next-parity a)

-- a number that is chosen
pub if-true : (b : Bool) (x a c : ℕ) → b ≡ true → x ≡ a → x ≡ (if b then a else c)
if-true b x a c e h = rw e h

pub if-false : (b : Bool) (x a c : ℕ) → b ≡ false → x ≡ c → x ≡ (if b then a else c)
if-false b x a c e h = rw e h

-- a step of the first parity, and one that stands so many places on
same-step : (t i a b : ℕ) → is_even (t + i) ≡ is_even a → (b + i) % 2 ≡ a % 2
    → is_even t ≡ is_even b
same-step t i a b e h =
    let r : (t + i) % 2 ≡ a % 2 = rest-of (t + i) a e in
    even-of t b (omega arith)

-- ---- what a block lays

turn-below : (up : Bool) (count i : ℕ) → i < count → (if up then i else count - 1 - i) < count
turn-below true count i h = h
turn-below false count i h = omega arith

section-place : (up : Bool) (n from count i : ℕ) → from ≡ (if up then 1 else n - count) → i < count
    → count ≤ n
    → in_turn up from count i ≡ from_end up n (i + 1)
section-place true n from count i e h b = omega arith
section-place false n from count i e h b = omega arith

station-place : (up : Bool) (at from count i : ℕ) → from ≡ (if up then at else at + 1 - count)
    → i < count
    → (if up then 0 else count) ≤ at + 1 → in_turn up from count i ≡ beside up at i
station-place true at from count i e h b = omega arith
station-place false at from count i e h b = omega arith

pub section-laid : (block : SectionBlock) (up even : Bool) (lowest from count : ℕ)
    (old new : Stretch)
    → up ≡ (block.left == 1) → even ≡ is_even block.start
    → from ≡ (if up then 1 else count_of block.stretch.now - 1 - count)
    → 2 * count ≤ block.window → block.window + 1 ≤ count_of block.stretch.now
    → IsTaken lowest block.stretch.now from count old new
    → AreLaid up even lowest count (section_tells block) old new
unfolding section_tells
section-laid block up even lowest from count old new eu ee ef few long p =
    let other = block.stretch.now in
    let n = count_of other - 1 in
    let s = block.start in
    let read : (t i j : ℕ) → i < count → j / 2 ≡ i → is_even t ≡ is_even (s + (j + 1) / 2)
    → kept new t (in_turn up lowest count i) ≡ kept other (s + (j + 1) / 2)
    (from_end (block.left == 1) n (j / 2 + 1)) =
    λ t i j b half par.
    p.taken t (if up then i else count - 1 - i) (turn-below up count i b)
    ∙ ap (kept other t) (section-place up n from count i ef b (omega arith))
    ∙ ap (λ (z : Bool). kept other t (from_end z n (i + 1))) eu
    ∙ ap (λ z. kept_in other z (from_end (block.left == 1) n (i + 1))) par
    ∙ ap (λ z. kept other (s + (j + 1) / 2) (from_end (block.left == 1) n (z + 1))) (sym half) in
    record {
      earlier = λ t i point b e told.
          read t i (2 * i) b (omega arith)
          (same-step t i s (s + (2 * i + 1) / 2) (e ∙ ee) (omega arith)) ∙ told;
      later = λ t i point b e told.
          let e' : is_even (t + (i + 1)) ≡ is_even s = ap is_even (omega arith) ∙ e ∙ ee in
          read t i (2 * i + 1) b (omega arith)
          (same-step t (i + 1) s (s + (2 * i + 1 + 1) / 2) e' (omega arith)) ∙ told;
      rest = p.rest;
    }

pub station-laid : (block : StationBlock) (up even : Bool) (lowest from count : ℕ)
    (old new : Stretch)
    → up ≡ (block.right == 1) → even ≡ is_even (block.start + block.window + 1)
    → from ≡ (if up then block.at else block.at + 1 - count) → 2 * count ≤ block.window
    → (if block.right == 1 then 0 else (block.window - 1) / 2) ≤ block.at
    → IsTaken lowest block.stretch.now from count old new
    → AreLaid up even lowest count (station_tells block) old new
unfolding station_tells
station-laid block up even lowest from count old new eu ee ef few behind p =
    let other = block.stretch.now in
    let at = block.at in
    let s = block.start in
    let w = block.window in
    let read : (t i j : ℕ) → i < count → j / 2 ≡ i → is_even t ≡ is_even (s + station_step w j)
    → kept new t (in_turn up lowest count i) ≡ kept other (s + station_step w j)
    (beside (block.right == 1) at (j / 2)) =
    λ t i j b half par.
    p.taken t (if up then i else count - 1 - i) (turn-below up count i b)
    ∙ ap (kept other t) (station-place up at from count i ef b
    (room up (block.right == 1) count at eu (omega arith) behind))
    ∙ ap (λ (z : Bool). kept other t (beside z at i)) eu
    ∙ ap (λ z. kept_in other z (beside (block.right == 1) at i)) par
    ∙ ap (λ z. kept other (s + station_step w j) (beside (block.right == 1) at z)) (sym half) in
    record {
      earlier = λ t i point b e told.
          let step : s + (w - 1 - i) ≡ s + station_step w (2 * i) = earlier-step w s i (omega arith)
          in
          read t i (2 * i) b (omega arith)
          (same-step t i (s + w + 1) (s + station_step w (2 * i)) (e ∙ ee) (omega arith)) ∙ told;
      later = λ t i point b e told.
          let step : s + (w - 1 - i) + 1 ≡ s + station_step w (2 * i + 1) = later-step w s i
          (omega arith) in
          let e' : is_even (t + (i + 1)) ≡ is_even (s + w + 1) = ap is_even (omega arith) ∙ e
          ∙ ee in
          read t i (2 * i + 1) b (omega arith)
          (same-step t (i + 1) (s + w + 1) (s + station_step w (2 * i + 1)) e' (omega arith))
          ∙ told;
      rest = p.rest;
    }
  where
    room : (u r : Bool) (k a : ℕ) → u ≡ r → k ≤ (block.window - 1) / 2 + 1
        → (if r then 0 else (block.window - 1) / 2) ≤ a → (if u then 0 else k) ≤ a + 1
    room true true k a e h b = omega arith
    room true false k a e h b = omega arith
    room false true k a e h b = absurd (distinct e refl refl)
    room false false k a e h b = omega arith

-- ---- what a section takes in of a station

turn-end : (left : Bool) (n lowest count x : ℕ) → lowest ≡ (if left then 0 else n + 1 - count)
    → x ≤ n → count ≤ n
    → from_end left n x < count → in_turn left lowest count (from_end left n x) ≡ x
turn-end true n lowest count x e a b h = omega arith
turn-end false n lowest count x e a b h = omega arith

past-end : (left : Bool) (n lowest count x : ℕ) → lowest ≡ (if left then 0 else n + 1 - count)
    → x ≤ n
    → count ≤ from_end left n x → (x < lowest) ⊎ (lowest + count ≤ x)
past-end true n lowest count x e a h = inr (omega arith)
past-end false n lowest count x e a h = inl (omega arith)

pub side-laid : (law : Meaning) (old new : Stretch) (left even : Bool) (n w s lowest count : ℕ)
    (tells : ℕ → Point → Type 0) (front : ℕ → ℕ)
    → count_of old ≡ n + 1 → w ≤ n → 2 * count ≤ w → lowest ≡ (if left then 0 else n + 1 - count)
    → even ≡ is_even (s + w + 1)
    → AreSamePlaces old new → AreLaid left even lowest count tells old new
    → HasPoints w (station_side law old left w s) tells
    → Holds law ever front old → Holds law ever (loading left n w s count front) new
side-laid law old new left even n w s lowest count tells front size long few low par same laid has
    h = record {
      cell = λ t x b z f g.
          let n-same : count_of new ≡ count_of old = same.count_is in
          let m = same-spot law old new t x same in
          let d = from_end left n x in
          elim (cases_lt d count) [
            | inl c ↦
                let q : loading left n w s count front x ≡ s + w - d = loaded-in left n w s count
                front
                x c in
                let at : x ≡ from_end left n d = place-is left n d x (omega arith) (omega arith)
                refl in
                let here = turn-end left n lowest count x low (omega arith) (omega arith) c in
                elim (which t (s + (w - d) - 1) (omega arith) (omega arith)) [
                  | inl k ↦
                      point-first law old left n w s d x tells (kept new t x) size (omega arith) at
                      has
                      (λ p told. ap (kept new t) (sym here)
                      ∙ laid.earlier t d p c (even-of (t + d) (s + w + 1) (omega arith) ∙ sym par)
                      told)
                      ∙ ap (λ y. spot law old y x) (sym k) ∙ sym m
                  | inr k ↦
                      point-second law old left n w s d x tells (kept new t x) size (omega arith) at
                      has
                      (λ p told. ap (kept new t) (sym here)
                      ∙ laid.later t d p c (even-of (t + d + 1) (s + w + 1) (omega arith) ∙ sym par)
                      told)
                      ∙ ap (λ y. spot law old y x) (omega arith) ∙ sym m
                ]
            | inr c ↦
                let q : loading left n w s count front x ≡ front x = loaded-out left n w s count
                front x
                c in
                laid.rest t x (past-end left n lowest count x low (omega arith) c)
                ∙ h.cell t x (omega arith) z (omega arith) (omega arith) ∙ sym m
          ];
    }

-- ---- what a station takes in of a section

-- a place is one of those that are taken in, or another
data Where (right : Bool) (at count lowest x : ℕ) : Type 0 where
  Inside : is_beside right at count x ≡ true → 1 ≤ from_place at x → from_place at x ≤ count
      → x ≡ beside right at (from_place at x)
      → in_turn right lowest count (from_place at x - 1) ≡ x → Where right at count lowest x
  Outside : is_beside right at count x ≡ false → (x < lowest) ⊎ (lowest + count ≤ x)
      → Where right at count lowest x

where-is : (right : Bool) (at count lowest size x : ℕ)
    → lowest ≡ (if right then at + 1 else at - count) → HasBeside right at count size
    → Where right at count lowest x
where-is true at count lowest size x e h = elim (cases_lt at x) [
  | inr b ↦ Outside (rw (le-ltb at x b) refl) (inl (omega arith))
  | inl b ↦ elim (cases_lt (at + count) x) [
    | inl c ↦ Outside (rw (lt-leb x (at + count) c, and-false) refl) (inr (omega arith))
    | inr c ↦ Inside (rw (lt-ltb at x b, le-leb x (at + count) c) refl) (omega arith) (omega arith)
        (omega arith) (omega arith)
  ]
]
where-is false at count lowest size x e h =
    let f : count ≤ at = h.0 in
    elim (cases_lt x at) [
      | inr b ↦ Outside (rw (le-ltb x at b) refl) (inr (omega arith))
      | inl b ↦ elim (cases_lt (x + count) at) [
        | inl c ↦ Outside (rw (lt-leb at (x + count) c, and-false) refl) (inl (omega arith))
        | inr c ↦ Inside (rw (lt-ltb x at b, le-leb at (x + count) c) refl) (omega arith)
            (omega arith) (omega arith) (omega arith)
      ]
    ]

pub beside-laid : (law : Meaning) (old new : Stretch) (right even : Bool) (at w s lowest count : ℕ)
    (tells : ℕ → Point → Type 0)
    (since front : ℕ → ℕ) → HasBeside right at count (count_of old) → 2 * count ≤ w
    → lowest ≡ (if right then at + 1 else at - count) → even ≡ is_even s
    → AreSamePlaces old new → AreLaid right even lowest count tells old new
    → HasPoints w (outer_side law old right at s) tells
    → Holds law since front old
    → Holds law (taken_since right at s count since) (taken_front right at w s count front) new
beside-laid law old new right even at w s lowest count tells since front room few low par same laid
    has h = record {
      cell = λ t x b z f g. cell t x b (where-is right at count lowest (count_of old) x low room) z
          f g;
    }
  where
    cell : (t x : ℕ) → x < count_of new → Where right at count lowest x
        → taken_since right at s count since x ≤ t → t ≤ taken_front right at w s count front x
        → taken_front right at w s count front x ≤ t + 1 → kept new t x ≡ spot law new t x
    cell t x b (Inside among some most at-place turn) z f g =
        let m = same-spot law old new t x same in
        let d = from_place at x in
        let q : taken_front right at w s count front x ≡ fan s w 0 d = rw among refl in
        let near : IsNear right at w d (count_of old) x =
        record {
          some = some;
          near = omega arith;
          has = nearer right at count d (count_of old) room
              most;
          place_is = at-place;
        } in
        elim (which t (s + (d - 1)) (omega arith) (omega arith)) [
          | inl k ↦
              outer-first law old right at w s d (count_of old) x tells (kept new t x) near has
              (λ p told. ap (kept new t) (sym turn)
              ∙ laid.earlier t (d - 1) p (omega arith)
              (even-of (t + (d - 1)) s (omega arith) ∙ sym par) told)
              ∙ ap (λ y. spot law old y x) (sym k) ∙ sym m
          | inr k ↦
              outer-second law old right at w s d (count_of old) x tells (kept new t x) near
              (omega arith) has
              (λ p told. ap (kept new t) (sym turn)
              ∙ laid.later t (d - 1) p (omega arith)
              (even-of (t + (d - 1) + 1) s (omega arith) ∙ sym par) told)
              ∙ ap (λ y. spot law old y x) (sym k) ∙ sym m
        ]
    cell t x b (Outside apart past) z f g =
        let size : count_of new ≡ count_of old = same.count_is in
        let q : taken_front right at w s count front x ≡ front x = rw apart refl in
        let r : taken_since right at s count since x ≡ since x = rw apart refl in
        laid.rest t x past ∙ h.cell t x (omega arith) (omega arith) (omega arith) (omega arith)
        ∙ sym (same-spot law old new t x same)
