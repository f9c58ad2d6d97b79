-- Values of a table between its points.
use Rattle.std.proofs.Common.{ℕ, zero, suc, true, false, Bool, cond, int_lt, ◌+◌, ◌-◌, ◌*◌, ◌<◌, ◌≤◌, ◌≡◌, ◌⊎◌, inl, inr, ℤ, pos, negsuc, neg_ℤ, ◌+ℤ◌, ◌-ℤ◌, ◌*ℤ◌, ◌≤ℤ◌, ◌<ℤ◌, unsigned_abs, List, [], ◌∷◌, length, refl, sym, ◌∙◌, ap, subst, w64, FitsSigned, arith}
use Rattle.std.specs.Int.{w128}
use Rattle.std.proofs.lemmas.Int.{ints, unsigned_abs-mul, fits_signed_from_abs, fits_signed_mul}
use Rattle.std.proofs.lemmas.Nat.{mul-le}
use Rattle.fixed_num.specs.Rounding.{half_up, rnd}
use Rattle.std.specs.List.{AllByRecursion}
use Rattle.fixed_num.specs.Tables.{entry_at, Rises, on_line, interp, IsBetween, IsInterpolated}
use Rattle.fixed_num.proofs.Nearest.{half_up-parts, half_up-only}
use Rattle.fixed_num.proofs.Orders.{not_less_at, less_at, less_of, not_less_of}

pub le_or_more : (k m : ℕ) → (k ≤ m) ⊎ (m < k)
le_or_more k m = grind arith

too_much : (k m x d : ℕ) → x < d → 2 * (k * d) ≤ 2 * (m * x) + d → m < k → ⊥
too_much k m x d h p e =
    let a : (m + 1) * d ≤ k * d = mul-le (m + 1) d k d (omega arith) (omega arith) in
    let b : m * x ≤ m * d = mul-le m x m d (omega arith) (omega arith) in
    omega arith

within_part : (k m x d : ℕ) → x < d → 2 * (k * d) ≤ 2 * (m * x) + d → k ≤ m
within_part k m x d h p = elim (le_or_more k m) [
  | inl e ↦ e
  | inr e ↦ absurd (too_much k m x d h p e)
]

-- a part of a difference is no larger than the difference
half_up-part : (m x d : ℕ) → x < d → half_up (m * x) d ≤ m
half_up-part m x d h = within_part (half_up (m * x) d) m x d h (half_up-parts (m * x) d (omega arith)).0

pub half_up-none : (d : ℕ) → 0 < d → half_up 0 d ≡ 0
half_up-none d h = sym (half_up-only 0 0 d h (omega arith) (omega arith))

pub rnd_up : (k d : ℕ) → rnd (pos k) (pos d) ≡ pos (half_up k d)
unfolding rnd
rnd_up k d = refl

pub rnd_down : (k d : ℕ) → 0 < d → rnd (neg_ℤ (pos k)) (pos d) ≡ neg_ℤ (pos (half_up k d))
unfolding rnd
rnd_down zero d h = ap pos (half_up-none d h) ∙ ap (λ (n : ℕ). neg_ℤ (pos n)) (sym (half_up-none d h))
rnd_down (suc k) d h = let e : k + 1 ≡ suc k = omega arith in ap (λ (n : ℕ). neg_ℤ (pos (half_up n d))) e

pub times_up : (m x : ℕ) → pos m *ℤ pos x ≡ pos (m * x)
times_up m x = omega (arith, ints)

pub times_down : (m x : ℕ) → negsuc m *ℤ pos x ≡ neg_ℤ (pos (suc m * x))
times_down m zero = omega (arith, ints)
times_down m (suc x) = omega (arith, ints)

-- a rounded part of a difference lies between none and all of it
pub record IsPart (difference part : ℤ) : Type 0 where
  pub up : pos 0 ≤ℤ difference → (pos 0 ≤ℤ part) × (part ≤ℤ difference)
  pub down : difference ≤ℤ pos 0 → (difference ≤ℤ part) × (part ≤ℤ pos 0)

part_up : (m k : ℕ) → k ≤ m → IsPart (pos m) (pos k)
part_up m k h = record { up = λ p. (omega (arith, ints), omega (arith, ints)); down = λ p. (omega (arith, ints), omega (arith, ints)) }

part_down : (m k : ℕ) → k ≤ suc m → IsPart (negsuc m) (neg_ℤ (pos k))
part_down m k h = record { up = λ p. absurd (omega (arith, ints)); down = λ p. (omega (arith, ints), omega (arith, ints)) }

pub part : (difference : ℤ) (x d : ℕ) → x < d → IsPart difference (rnd (difference *ℤ pos x) (pos d))
part (pos m) x d h = subst (λ (n : ℤ). IsPart (pos m) (rnd n (pos d))) (sym (times_up m x)) (subst (λ (n : ℤ). IsPart (pos m) n) (sym (rnd_up (m * x) d)) (part_up m (half_up (m * x) d) (half_up-part m x d h)))
part (negsuc m) x d h = subst (λ (n : ℤ). IsPart (negsuc m) (rnd n (pos d))) (sym (times_down m x)) (subst (λ (n : ℤ). IsPart (negsuc m) n) (sym (rnd_down (suc m * x) d (omega arith))) (part_down m (half_up (suc m * x) d) (half_up-part (suc m) x d h)))

pub part_of : (difference x d : ℤ) → pos 0 ≤ℤ x → x <ℤ d → IsPart difference (rnd (difference *ℤ x) d)
part_of difference (pos x) (pos d) low high = part difference x d (omega (arith, ints))
part_of difference (pos x) (negsuc d) low high = absurd (omega (arith, ints))
part_of difference (negsuc x) d low high = absurd (omega (arith, ints))

size_of_part : (difference part : ℤ) → IsPart difference part → unsigned_abs part ≤ unsigned_abs difference
size_of_part (pos m) r h = let p = h.up (omega (arith, ints)) in omega (arith, ints, p.0, p.1)
size_of_part (negsuc m) r h = let p = h.down (omega (arith, ints)) in omega (arith, ints, p.0, p.1)

pub part_size : (difference x d : ℤ) → pos 0 ≤ℤ x → x <ℤ d → unsigned_abs (rnd (difference *ℤ x) d) ≤ unsigned_abs difference
part_size difference x d low high = size_of_part difference (rnd (difference *ℤ x) d) (part_of difference x d low high)

pub fits : (z : ℤ) → unsigned_abs z ≤ 4000000000000000 → FitsSigned w64 z
fits z h = fits_signed_from_abs w64 z (omega arith)

-- the product of a difference and a place on its width fits
pub fits_product : (difference x d : ℤ) → unsigned_abs difference ≤ 2000000000000000 → pos 0 ≤ℤ x → x <ℤ d → unsigned_abs d ≤ 2000000000000000 → FitsSigned w128 (difference *ℤ x)
fits_product difference x d h low high width = fits_signed_mul w128 difference x 2000000000000000 2000000000000000 h (omega (arith, ints)) (omega arith)

pub product_size : (difference x d : ℤ) → unsigned_abs difference ≤ 2000000000000000 → pos 0 ≤ℤ x → x <ℤ d → unsigned_abs d ≤ 2000000000000000 → unsigned_abs (difference *ℤ x) ≤ 4000000000000000000000000000000
product_size difference x d h low high width = rw (unsigned_abs-mul difference x) (mul-le (unsigned_abs difference) (unsigned_abs x) 2000000000000000 2000000000000000 h (omega (arith, ints)))

-- the rest of a rising table rises
rises_on : (a b : ℤ × ℤ) (points : List (ℤ × ℤ)) → Rises (a ∷ b ∷ points) → Rises (b ∷ points)
rises_on a b points r = λ k h.
    let e : suc k + 1 ≡ suc (k + 1) = omega arith in
    subst (λ (n : ℕ). ((entry_at (b ∷ points) k).0 +ℤ pos 1) ≤ℤ (entry_at (a ∷ b ∷ points) n).0) e (r (suc k) (omega (arith, h)))

-- no point of a rising table stands before its first
first_least : (a : ℤ × ℤ) (points : List (ℤ × ℤ)) (k : ℕ) → Rises (a ∷ points) → k < length (a ∷ points) → a.0 ≤ℤ (entry_at (a ∷ points) k).0
first_least a points zero r h = omega (arith, ints)
first_least a [] (suc k) r h = absurd (omega (arith, h))
first_least a (b ∷ points) (suc k) r h =
    let later = first_least b points k (rises_on a b points r) (omega (arith, h)) in
    let here = r 0 (omega arith) in
    omega (arith, ints, later, here)

-- the value of a table between two neighbouring points
pub on_segment : (points : List (ℤ × ℤ)) (t : ℤ) (k : ℕ) → Rises points → k + 1 < length points → (entry_at points k).0 ≤ℤ t → t <ℤ (entry_at points (k + 1)).0
    → interp points t ≡ on_line (entry_at points k) (entry_at points (k + 1)) t
unfolding interp
on_segment [] t k r h low high = absurd (omega (arith, h))
on_segment (a ∷ []) t k r h low high = absurd (omega (arith, h))
on_segment (a ∷ b ∷ points) t zero r h low high = rw (less_at t b.0 high) (rw (not_less_at t a.0 low) refl)
on_segment (a ∷ b ∷ points) t (suc k) r h low high =
    let later = first_least b points k (rises_on a b points r) (omega (arith, h)) in
    let e : suc k + 1 ≡ suc (k + 1) = omega arith in
    let after : t <ℤ (entry_at (b ∷ points) (k + 1)).0 = subst (λ (n : ℕ). t <ℤ (entry_at (a ∷ b ∷ points) n).0) e high in
    let same = ap (λ (n : ℕ). on_line (entry_at (b ∷ points) k) (entry_at (a ∷ b ∷ points) n) t) (sym e) in
    rw (not_less_at t b.0 (omega (arith, ints, later, low))) (on_segment (b ∷ points) t k (rises_on a b points r) (omega (arith, h)) low after ∙ same)

no_part : (rise : ℤ) (r : ℤ) → IsPart (pos 0) r → r ≡ pos 0
no_part rise r p = let q = p.up (omega (arith, ints)) in omega (arith, ints, q.0, q.1)

positive_width : (a b : ℤ) → (a +ℤ pos 1) ≤ℤ b → a <ℤ b
positive_width a b h = omega (arith, ints, h)

nothing_more : (rise width : ℤ) → pos 0 <ℤ width → rnd (rise *ℤ pos 0) width ≡ pos 0
nothing_more rise width h =
    let e : rise *ℤ pos 0 ≡ pos 0 *ℤ pos 0 = omega (arith, ints) in
    no_part rise (rnd (rise *ℤ pos 0) width) (subst (λ (n : ℤ). IsPart (pos 0) (rnd n width)) (sym e) (part_of (pos 0) (pos 0) width (omega (arith, ints)) h))

-- at its first point a segment has the value of that point
at_start : (a b : ℤ × ℤ) → a.0 <ℤ b.0 → on_line a b a.0 ≡ a.1
unfolding on_line
at_start a b h =
    let e : a.0 -ℤ a.0 ≡ pos 0 = omega (arith, ints) in
    ap (λ (x : ℤ). a.1 +ℤ rnd ((b.1 -ℤ a.1) *ℤ x) (b.0 -ℤ a.0)) e
    ∙ ap (λ (x : ℤ). a.1 +ℤ x) (nothing_more (b.1 -ℤ a.1) (b.0 -ℤ a.0) (omega (arith, ints, h)))
    ∙ omega (arith, ints)

same_or_before : (t u : ℤ) → t ≤ℤ u → (t ≡ u) ⊎ (t <ℤ u)
same_or_before t u h = grind (arith, ints)

first_segment : (a b : ℤ × ℤ) (t : ℤ) → a.0 <ℤ b.0 → (t ≡ a.0) ⊎ (t <ℤ a.0) → cond (int_lt t a.0) a.1 (on_line a b t) ≡ a.1
first_segment a b t w (inl e) = rw (not_less_at t a.0 (omega (arith, ints, e))) (ap (λ (x : ℤ). on_line a b x) e ∙ at_start a b w)
first_segment a b t w (inr h) = rw (less_at t a.0 h) refl

pub first_value : (a : ℤ × ℤ) (points : List (ℤ × ℤ)) (t : ℤ) → Rises (a ∷ points) → t ≤ℤ a.0 → interp (a ∷ points) t ≡ a.1
unfolding interp
first_value a [] t r h = refl
first_value a (b ∷ points) t r h =
    let w = positive_width a.0 b.0 (r 0 (omega arith)) in
    rw (less_at t b.0 (omega (arith, ints, w, h))) (first_segment a b t w (same_or_before t a.0 h))

pub last_value : (points : List (ℤ × ℤ)) (t : ℤ) → 0 < length points → Rises points → (entry_at points (length points - 1)).0 ≤ℤ t → interp points t ≡ (entry_at points (length points - 1)).1
unfolding interp
last_value [] t s r h = absurd (omega (arith, s))
last_value (a ∷ []) t s r h = refl
last_value (a ∷ b ∷ points) t s r h =
    let e : length (a ∷ b ∷ points) - 1 ≡ suc (length (b ∷ points) - 1) = omega arith in
    let after : (entry_at (b ∷ points) (length (b ∷ points) - 1)).0 ≤ℤ t = subst (λ (n : ℕ). (entry_at (a ∷ b ∷ points) n).0 ≤ℤ t) e h in
    let later = first_least b points (length (b ∷ points) - 1) (rises_on a b points r) (omega arith) in
    rw (not_less_at t b.0 (omega (arith, ints, later, after)))
    (last_value (b ∷ points) t (omega arith) (rises_on a b points r) after ∙ ap (λ (n : ℕ). (entry_at (a ∷ b ∷ points) n).1) (sym e))

pub interp_points : (points : List (ℤ × ℤ)) (t : ℤ) → 0 < length points → Rises points → IsInterpolated points t (interp points t)
interp_points [] t s r = absurd (omega (arith, s))
interp_points (a ∷ points) t s r = record {
  before = first_value a points t r;
  after = last_value (a ∷ points) t s r;
  between = λ k h low high. on_segment (a ∷ points) t k r h low high;
}

up_or_down : (d : ℤ) → (pos 0 ≤ℤ d) ⊎ (d ≤ℤ pos 0)
up_or_down d = grind (arith, ints)

part_within : (least most v0 v1 r : ℤ) → IsBetween least most v0 → IsBetween least most v1 → IsPart (v1 -ℤ v0) r → (pos 0 ≤ℤ (v1 -ℤ v0)) ⊎ ((v1 -ℤ v0) ≤ℤ pos 0) → IsBetween least most (v0 +ℤ r)
part_within least most v0 v1 r h k p (inl s) = let q = p.up s in record { low = omega (arith, ints, h.low, q.0); high = omega (arith, ints, k.high, q.1) }
part_within least most v0 v1 r h k p (inr s) = let q = p.down s in record { low = omega (arith, ints, k.low, q.0); high = omega (arith, ints, h.high, q.1) }

pub line_within : (least most : ℤ) (a b : ℤ × ℤ) (t : ℤ) → IsBetween least most a.1 → IsBetween least most b.1 → a.0 ≤ℤ t → t <ℤ b.0 → IsBetween least most (on_line a b t)
unfolding on_line
line_within least most a b t h k low high =
    part_within least most a.1 b.1 (rnd ((b.1 -ℤ a.1) *ℤ (t -ℤ a.0)) (b.0 -ℤ a.0)) h k
    (part_of (b.1 -ℤ a.1) (t -ℤ a.0) (b.0 -ℤ a.0) (omega (arith, ints, low)) (omega (arith, ints, high))) (up_or_down (b.1 -ℤ a.1))

-- what a choice gives is within limits where both its sides are
chosen_within : (least most : ℤ) (choice : Bool) (x y : ℤ) → (choice ≡ true → IsBetween least most x) → (choice ≡ false → IsBetween least most y) → IsBetween least most (cond choice x y)
chosen_within least most true x y h k = h refl
chosen_within least most false x y h k = k refl

pub interp_within : (least most : ℤ) (points : List (ℤ × ℤ)) (t : ℤ) → 0 < length points → AllByRecursion (λ e. IsBetween least most e.1) points → IsBetween least most (interp points t)
unfolding interp
interp_within least most [] t s h = absurd (omega (arith, s))
interp_within least most (a ∷ []) t s h = h.0
interp_within least most (a ∷ b ∷ points) t s h =
    chosen_within least most (int_lt t b.0) (cond (int_lt t a.0) a.1 (on_line a b t)) (interp (b ∷ points) t)
    (λ before. chosen_within least most (int_lt t a.0) a.1 (on_line a b t) (λ e. h.0) (λ e. line_within least most a b t h.0 h.1.0 (not_less_of t a.0 e) (less_of t b.0 before)))
    (λ e. interp_within least most (b ∷ points) t (omega arith) h.1)

-- the value of a table at and before its first point
pub first_is : (points : List (ℤ × ℤ)) (t : ℤ) → 0 < length points → Rises points → t ≤ℤ (entry_at points 0).0 → interp points t ≡ (entry_at points 0).1
first_is [] t s r h = absurd (omega (arith, s))
first_is (a ∷ points) t s r h = first_value a points t r h
