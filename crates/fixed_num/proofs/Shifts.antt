-- Reciprocals as they are worked out in words.
use Rattle.std.proofs.Common.{ℕ, suc, ◌+◌, ◌-◌, ◌*◌, ◌/◌, ◌%◌, ◌^◌, ◌<◌, ◌≤◌, ◌≡◌, arith, rules, ℤ, pos, negsuc, ◌+ℤ◌, ◌*ℤ◌, ◌≤ℤ◌, unsigned_abs, w64, to_z, of_z, FitsSigned, inl, inr, refl}
use Rattle.std.specs.Int.{w128}
use Rattle.std.specs.Int.Count.{count_leading_zeros}
use Rattle.std.specs.Int.Signed.{shr_z}
use Rattle.std.proofs.lemmas.Bool.{cases_lt}
use Rattle.std.proofs.lemmas.Int.{ints, fits_signed_from_abs, to_z-of_z, to_z_pos}
use Rattle.std.proofs.lemmas.Nat.{div_below, pow-add, pow_below, leading_top}
use Rattle.fixed_num.specs.Reciprocals.{IsReciprocal}
use Rattle.fixed_num.proofs.Fits.{wide_product}
use Rattle.fixed_num.proofs.Inverses.{upper_fits}

pub upper_is : (a b : ℤ) → FitsSigned w64 a → FitsSigned w64 b
    → to_z w64 (of_z w64 (to_z w128 (of_z w128 (shr_z (to_z w128 (of_z w128 (to_z w128 (of_z w128 (to_z w64 (of_z w64 a))) *ℤ to_z w128 (of_z w128 (to_z w64 (of_z w64 b)))))) 18446744073709551616)))) ≡ shr_z (a *ℤ b) 18446744073709551616
upper_is a b f g =
    let s : FitsSigned w64 (shr_z (a *ℤ b) 18446744073709551616) = upper_fits a b f g in
    let t : FitsSigned w128 (shr_z (a *ℤ b) 18446744073709551616) = search rules in
    rw (wide_product a b f g, to_z-of_z w128 (shr_z (a *ℤ b) 18446744073709551616) t) (to_z-of_z w64 (shr_z (a *ℤ b) 18446744073709551616) s)

pub one_shifted : (k : ℕ) → k ≤ 60 → to_z w64 (1 * 2 ^ k % 18446744073709551616) ≡ pos (2 ^ k)
one_shifted k h =
    let p : 2 ^ k < 2 ^ 61 = pow_below k 61 (omega arith) in
    let e : 1 * 2 ^ k % 18446744073709551616 ≡ 2 ^ k = omega arith in
    rw e (to_z_pos w64 (2 ^ k) (omega arith))

half_added : (x : ℤ) (k : ℕ) → unsigned_abs x < 4611686018427387904 → k ≤ 60 → FitsSigned w64 (x +ℤ pos (2 ^ k))
half_added x k small h =
    let p : 2 ^ k < 2 ^ 61 = pow_below k 61 (omega arith) in
    fits_signed_from_abs w64 (x +ℤ pos (2 ^ k)) (omega (arith, ints))

sum_in : (x middle : ℤ) (places : ℕ) → unsigned_abs x < 4611686018427387904 → 1 ≤ places → places ≤ 61 → middle ≡ pos (2 ^ (places - 1)) → FitsSigned w64 (x +ℤ middle)
sum_in x m p small some few e = rw e (half_added x (p - 1) small (omega arith))

pub sum_fits : (x middle : ℤ) (places : ℕ) → FitsSigned w64 x → FitsSigned w64 middle → unsigned_abs x < 4611686018427387904 → 1 ≤ places → places ≤ 61 → middle ≡ pos (2 ^ (places - 1))
    → FitsSigned w64 (to_z w64 (of_z w64 x) +ℤ to_z w64 (of_z w64 middle))
sum_fits x m p f g small some few e = rw (to_z-of_z w64 x f, to_z-of_z w64 m g) (sum_in x m p small some few e)

shift_in : (x middle : ℤ) (places : ℕ) → 1 ≤ places → middle ≡ pos (2 ^ (places - 1)) → shr_z (x +ℤ middle) (2 ^ places) ≡ shr_z (x +ℤ pos (2 ^ (places - 1))) (2 ^ (places - 1 + 1))
shift_in x m p some e = let f : p - 1 + 1 ≡ p = omega arith in rw (e, f) refl

pub shift_is : (x middle : ℤ) (places : ℕ) → FitsSigned w64 x → FitsSigned w64 middle → unsigned_abs x < 4611686018427387904 → 1 ≤ places → places ≤ 61 → middle ≡ pos (2 ^ (places - 1))
    → to_z w64 (of_z w64 (shr_z (to_z w64 (of_z w64 (to_z w64 (of_z w64 x) +ℤ to_z w64 (of_z w64 middle)))) (2 ^ places))) ≡ shr_z (x +ℤ pos (2 ^ (places - 1))) (2 ^ (places - 1 + 1))
shift_is x m p f g small some few e =
    let s : FitsSigned w64 (x +ℤ m) = sum_in x m p small some few e in
    let t : FitsSigned w64 (shr_z (x +ℤ m) (2 ^ p)) = search rules in
    rw (to_z-of_z w64 x f, to_z-of_z w64 m g, to_z-of_z w64 (x +ℤ m) s) (rw (to_z-of_z w64 (shr_z (x +ℤ m) (2 ^ p)) t) (shift_in x m p some e))

-- what the leading zeros of the number before a divisor tell
pub record IsScale (d zeros j : ℕ) : Type 0 where
  pub count : zeros + suc j ≡ 64
  pub least : 3 ≤ j
  pub most : j ≤ 46
  pub over : 2 ^ j < d
  pub within : d ≤ 2 ^ suc j

three : (j a : ℕ) → 15 ≤ a → a < 2 ^ suc j → 3 ≤ j
three j a h k = elim (cases_lt j 3) [
  | inl p ↦ let m : 2 ^ suc j < 2 ^ 4 = pow_below (suc j) 4 (omega arith) in absurd (omega arith)
  | inr p ↦ p
]

many : (j a : ℕ) → a < 70368744177664 → 2 ^ j ≤ a → j ≤ 46
many j a h k = elim (cases_lt 46 j) [
  | inl p ↦ let m : 2 ^ 46 < 2 ^ j = pow_below 46 j p in absurd (omega arith)
  | inr p ↦ p
]

pub scale_of : (d : ℕ) → 16 ≤ d → d ≤ 70368744177664 → (j : ℕ) × IsScale d (count_leading_zeros 64 (d - 1)) j
scale_of d low high =
    let t = leading_top 64 (d - 1) (omega arith) (omega arith) in (
      t.0,
      record {
        count = t.1;
        least = three t.0 (d - 1) (omega arith) t.3;
        most = many t.0 (d - 1) (omega arith) t.2;
        over = omega (arith, t.2);
        within = omega (arith, t.3);
      },
    )

pub few_zeros : (d zeros j : ℕ) → IsScale d zeros j → zeros ≤ 61
few_zeros d z j h = omega (arith, h.count, h.least)

pub small_shift : (d zeros j : ℕ) → IsScale d zeros j → 61 - zeros ≤ 44
small_shift d z j h = omega (arith, h.count, h.most)

pub over_shift : (d zeros j : ℕ) → IsScale d zeros j → 2 ^ (61 - zeros + 2) < d
over_shift d z j h =
    let total = h.count in
    let l = h.least in
    let e : 61 - z + 2 ≡ j = omega arith in
    rw e h.over

pub within_shift : (d zeros j : ℕ) → IsScale d zeros j → d ≤ 2 ^ (61 - zeros + 3)
within_shift d z j h =
    let total = h.count in
    let l = h.least in
    let e : 61 - z + 3 ≡ suc j = omega arith in
    rw e h.within

factor_below : (p t d : ℕ) → p ≡ t * 9223372036854775808 → t < d → d ≤ 70368744177664 → p / d + 1 < 9223372036854775808
factor_below p t d e h k =
    let m : p / d < 9223372036854775807 = div_below p d 9223372036854775807 (omega arith) (omega arith) in
    omega arith

pub factor_fits : (d s : ℕ) → d ≤ 70368744177664 → s ≤ 44 → 2 ^ (s + 2) < d
    → 1 * 2 ^ (s + 65) % 340282366920938463463374607431768211456 / d + 1 < 9223372036854775808
factor_fits d s high small over =
    let p : 2 ^ (s + 65) < 2 ^ 110 = pow_below (s + 65) 110 (omega arith) in
    let e : 1 * 2 ^ (s + 65) % 340282366920938463463374607431768211456 ≡ 2 ^ (s + 65) = omega arith in
    let f : s + 65 ≡ s + 2 + 63 = omega arith in
    let g : 2 ^ (s + 2 + 63) ≡ 2 ^ (s + 2) * 9223372036854775808 = pow-add 2 (s + 2) 63 in
    rw (e, f) (factor_below (2 ^ (s + 2 + 63)) (2 ^ (s + 2)) d g over high)

room : (d s : ℕ) → d ≤ 2 ^ (s + 3) → d * 4611686018427387904 ≤ 2 ^ (s + 65)
room d s h =
    let f : s + 65 ≡ s + 3 + 62 = omega arith in
    let g : 2 ^ (s + 3 + 62) ≡ 2 ^ (s + 3) * 4611686018427387904 = pow-add 2 (s + 3) 62 in
    rw f (omega arith)

made : (n factor s : ℕ) → 16 ≤ n → n % 2 ≡ 0 → s ≤ 44 → n ≤ 2 ^ (s + 3) → 2 ^ (s + 65) < factor * n → factor * n ≤ 2 ^ (s + 65) + n → IsReciprocal (pos n) (pos factor) s
made n factor s low even small within above near = record {
  positive = omega (arith, ints);
  even = even;
  least = omega (arith, ints);
  small = omega arith;
  above = above;
  near = near;
  room = room n s within;
}

pub reciprocal_of : (d : ℤ) (factor s : ℕ) → FitsSigned w64 d → pos 16 ≤ℤ d → unsigned_abs d % 2 ≡ 0 → s ≤ 44 → unsigned_abs (to_z w64 (of_z w64 d)) ≤ 2 ^ (s + 3)
    → factor < 9223372036854775808 → 2 ^ (s + 65) < factor * unsigned_abs (to_z w64 (of_z w64 d)) → factor * unsigned_abs (to_z w64 (of_z w64 d)) ≤ 2 ^ (s + 65) + unsigned_abs (to_z w64 (of_z w64 d))
    → IsReciprocal (to_z w64 (of_z w64 d)) (to_z w64 factor) s
reciprocal_of (pos n) factor s f low even small within fits above near =
    let e : to_z w64 (of_z w64 (pos n)) ≡ pos n = to_z-of_z w64 (pos n) f in
    let within2 : n ≤ 2 ^ (s + 3) = rw e at within in
    let above2 : 2 ^ (s + 65) < factor * n = rw e at above in
    let near2 : factor * n ≤ 2 ^ (s + 65) + n = rw e at near in
    rw (e, to_z_pos w64 factor fits) (made n factor s (omega (arith, ints)) even small within2 above2 near2)
reciprocal_of (negsuc n) factor s f low even small within fits above near = absurd (omega (arith, ints))
