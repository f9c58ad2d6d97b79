-- The quotient by a product and a shift is the rounded one.
use Rattle.std.proofs.Common.{ℕ, zero, suc, ◌+◌, ◌-◌, ◌*◌, ◌/◌, ◌^◌, ◌<◌, ◌≤◌, ◌≡◌, ap, sym, subst, refl, ◌∙◌, arith, add-one, ℤ, pos, negsuc, neg_ℤ, ◌+ℤ◌, ◌*ℤ◌, unsigned_abs, inl, inr, w64, FitsSigned}
use Rattle.std.specs.Int.Signed.{shr_z}
use Rattle.std.proofs.lemmas.Int.{ints, unsigned_abs-mul, fits_signed_from_abs}
use Rattle.std.proofs.lemmas.Bool.{cases_lt}
use Rattle.std.proofs.lemmas.Nat.{mul-le, le-div, div_below, pow-add, pow_pos}
use Rattle.fixed_num.specs.Rounding.{half_up, rnd}
use Rattle.fixed_num.proofs.Nearest.{half_up-parts}
use Rattle.fixed_num.proofs.Fits.{size}
use Rattle.fixed_num.specs.Reciprocals.{IsReciprocal, upper, shifted_half_up}
use Rattle.std.proofs.Math.Nat.{lt_of_mul-lt-mul_right}

-- a factor of the half, by which the divisor 2 g is a little over 2 half
product_above : (n q g half factor e : ℕ) → 0 < n → 0 < e → factor * (2 * g) ≡ 2 * half + e → 2 * q * g ≤ n + g
    → 2 * q * half < n * factor + half
product_above n q g half factor e some more f h =
    lt_of_mul-lt-mul_right (2 * g) {m = 2 * q * half} {n = n * factor + half}
    (let a : (2 * q * g) * (2 * half) ≤ (n + g) * (2 * half) = mul-le (2 * q * g) (2 * half) (n + g) (2 * half) h (omega arith) in
    let b : n * (factor * (2 * g)) ≡ n * (2 * half + e) = ap (λ (x : ℕ). n * x) f in
    let c : 1 * 1 ≤ n * e = mul-le 1 1 n e some more in
    omega arith)

product_below : (n q g half factor e : ℕ) → factor * (2 * g) ≡ 2 * half + e → n * e < 2 * half → n + g < 2 * q * g + 2 * g
    → n * factor < 2 * q * half + half
product_below n q g half factor e f small h =
    lt_of_mul-lt-mul_right (2 * g) {m = n * factor} {n = 2 * q * half + half}
    (let a : (n + 1) * (2 * half) ≤ (2 * q * g + g) * (2 * half) = mul-le (n + 1) (2 * half) (2 * q * g + g) (2 * half) (omega arith) (omega arith) in
    let b : n * (factor * (2 * g)) ≡ n * (2 * half + e) = ap (λ (x : ℕ). n * x) f in
    omega arith)

only_quotient : (n m q : ℕ) → 0 < m → q * m ≤ n → n < suc q * m → n / m ≡ q
only_quotient n m q p low high = omega (arith, le-div q n m p low, div_below n m (suc q) p high)

from_above : (product unit a q : ℕ) → 0 < unit → 2 * q * (unit * a) ≤ product + unit * a → q * (2 * a) ≤ product / unit + a
from_above product unit a zero some low = omega arith
from_above product unit a (suc p) some low =
    let over : 2 * p * a + a ≤ product / unit = le-div (2 * p * a + a) product unit some (omega arith) in
    omega arith

-- the unit is 2^64, and the half is a of them
floors_up : (product unit a q : ℕ) → 0 < unit → 0 < a → 2 * q * (unit * a) ≤ product + unit * a → product < 2 * q * (unit * a) + unit * a
    → (product / unit + a) / (2 * a) ≡ q
floors_up product unit a q some more low high =
    let over : product / unit < 2 * q * a + a = div_below product unit (2 * q * a + a) some (omega arith) in
    only_quotient (product / unit + a) (2 * a) q (omega arith) (from_above product unit a q some low) (omega arith)

mirrored_floor : (u a q : ℕ) → 0 < a → u + 1 ≤ 2 * q * a + a → q * (2 * a) ≤ u + a → shr_z (negsuc u +ℤ pos a) (2 * a) ≡ neg_ℤ (pos q)
mirrored_floor u a zero some low high =
    let e : (negsuc u +ℤ pos a) ≡ pos (a - suc u) = omega (arith, ints) in
    rw e (ap pos (only_quotient (a - suc u) (2 * a) 0 (omega arith) (omega arith) (omega arith)))
mirrored_floor u a (suc p) some low high =
    let over : a ≤ u = omega arith in
    let e : (negsuc u +ℤ pos a) ≡ negsuc (u - a) = omega (arith, ints) in
    rw e (ap negsuc (only_quotient (u - a) (2 * a) p (omega arith) (omega arith) (omega arith)))

floors_down : (rest unit a q : ℕ) → 0 < unit → 0 < a → 2 * q * (unit * a) < rest + 1 + unit * a → rest + 1 < 2 * q * (unit * a) + unit * a
    → shr_z (negsuc (rest / unit) +ℤ pos a) (2 * a) ≡ neg_ℤ (pos q)
floors_down rest unit a q some more low high =
    let under : rest / unit < 2 * q * a + a = div_below rest unit (2 * q * a + a) some (omega arith) in
    mirrored_floor (rest / unit) a q more (omega arith) (from_above rest unit a q some (omega arith))

little : (n e g half : ℕ) → n < 4611686018427387904 → 0 < g → e ≤ 2 * g → 2 * g * 4611686018427387904 ≤ 2 * half → n * e < 2 * half
little n e g half small some within room =
    let a : n * e ≤ n * (2 * g) = mul-le n e n (2 * g) (omega arith) within in
    let b : (n + 1) * (2 * g) ≤ 4611686018427387904 * (2 * g) = mul-le (n + 1) (2 * g) 4611686018427387904 (2 * g) (omega arith) (omega arith) in
    omega arith

none_up : (g : ℕ) → 0 < g → half_up 0 (2 * g) ≡ 0
none_up g some = only_quotient (2 * 0 + 2 * g) (2 * (2 * g)) 0 (omega arith) (omega arith) (omega arith)

low_part : (n g : ℕ) → 0 < g → 2 * half_up n (2 * g) * g ≤ n + g
low_part n g some = let parts = half_up-parts n (2 * g) (omega arith) in omega (arith, parts.0)

high_part : (n g : ℕ) → 0 < g → n + g < 2 * half_up n (2 * g) * g + 2 * g
high_part n g some = let parts = half_up-parts n (2 * g) (omega arith) in omega (arith, parts.1)

-- a number's quotient by 2 g, by a factor that is 2 half / (2 g) and a little more
up_is : (n g factor unit a : ℕ) → n < 4611686018427387904 → 0 < g → 0 < unit → 0 < a → 2 * (unit * a) < factor * (2 * g) → factor * (2 * g) ≤ 2 * (unit * a) + 2 * g
    → 2 * g * 4611686018427387904 ≤ 2 * (unit * a) → (n * factor / unit + a) / (2 * a) ≡ half_up n (2 * g)
up_is zero g factor unit a small some u more above near room =
    floors_up (0 * factor) unit a 0 u more (omega arith) (let p : 1 * 1 ≤ unit * a = mul-le 1 1 unit a u more in omega arith) ∙ sym (none_up g some)
up_is (suc m) g factor unit a small some u more above near room =
    let e : ℕ = factor * (2 * g) - 2 * (unit * a) in
    let f : factor * (2 * g) ≡ 2 * (unit * a) + e = omega arith in
    let low : 2 * half_up (suc m) (2 * g) * (unit * a) < suc m * factor + unit * a =
    product_above (suc m) (half_up (suc m) (2 * g)) g (unit * a) factor e (omega arith) (omega arith) f (low_part (suc m) g some) in
    let high : suc m * factor < 2 * half_up (suc m) (2 * g) * (unit * a) + unit * a =
    product_below (suc m) (half_up (suc m) (2 * g)) g (unit * a) factor e f (little (suc m) e g (unit * a) small some (omega arith) room) (high_part (suc m) g some) in
    floors_up (suc m * factor) unit a (half_up (suc m) (2 * g)) u more (omega (arith, low)) high

down_is : (n g factor rest unit a : ℕ) → 0 < n → n < 4611686018427387904 → 0 < g → 0 < unit → 0 < a → 2 * (unit * a) < factor * (2 * g) → factor * (2 * g) ≤ 2 * (unit * a) + 2 * g
    → 2 * g * 4611686018427387904 ≤ 2 * (unit * a) → n * factor ≡ rest + 1 → shr_z (negsuc (rest / unit) +ℤ pos a) (2 * a) ≡ neg_ℤ (pos (half_up n (2 * g)))
down_is n g factor rest unit a p small some u more above near room r =
    let e : ℕ = factor * (2 * g) - 2 * (unit * a) in
    let f : factor * (2 * g) ≡ 2 * (unit * a) + e = omega arith in
    let low : 2 * half_up n (2 * g) * (unit * a) < n * factor + unit * a =
    product_above n (half_up n (2 * g)) g (unit * a) factor e p (omega arith) f (low_part n g some) in
    let high : n * factor < 2 * half_up n (2 * g) * (unit * a) + unit * a =
    product_below n (half_up n (2 * g)) g (unit * a) factor e f (little n e g (unit * a) small some (omega arith) room) (high_part n g some) in
    floors_down rest unit a (half_up n (2 * g)) u more (omega (arith, low, r)) (omega (arith, high, r))

power_65 : (k : ℕ) → 2 ^ (k + 65) ≡ 2 * (18446744073709551616 * 2 ^ k)
power_65 k = omega (arith, pow-add 2 k 65)

power_1 : (k : ℕ) → 2 ^ (k + 1) ≡ 2 * 2 ^ k
power_1 k = omega (arith, pow-add 2 k 1)

product_down : (n factor rest : ℕ) → suc n * factor ≡ rest + 1 → (negsuc n *ℤ pos factor) ≡ negsuc rest
product_down n factor rest e = let f : suc n * factor ≡ suc rest = omega arith in ap (λ (m : ℕ). neg_ℤ (pos m)) f

of_number : (x : ℤ) (g factor k : ℕ) → unsigned_abs x < 4611686018427387904 → 0 < g → 2 ^ (k + 65) < factor * (2 * g) → factor * (2 * g) ≤ 2 ^ (k + 65) + 2 * g
    → 2 * g * 4611686018427387904 ≤ 2 ^ (k + 65) → shifted_half_up (upper x (pos factor)) k ≡ rnd x (pos (2 * g))
unfolding upper shifted_half_up rnd
of_number (pos n) g factor k small some above near room =
    let e = power_65 k in
    rw (power_1 k) (ap pos (up_is n g factor 18446744073709551616 (2 ^ k) small some (omega arith) (pow_pos k) (omega arith) (omega arith) (omega arith)))
of_number (negsuc n) g factor k small some above near room =
    let e = power_65 k in
    let p : 1 * 1 ≤ suc n * factor = mul-le 1 1 (suc n) factor (omega arith) (elim (cases_lt 0 factor) [ inl h ↦ h | inr h ↦ absurd (omega (arith, mul-le factor (2 * g) 0 (2 * g) h (omega arith))) ]) in
    let r : suc n * factor ≡ (suc n * factor - 1) + 1 = omega arith in
    rw (power_1 k, product_down n factor (suc n * factor - 1) r, add-one)
    (down_is (suc n) g factor (suc n * factor - 1) 18446744073709551616 (2 ^ k) (omega arith) small some (omega arith) (pow_pos k) (omega arith) (omega arith) (omega arith) r)

pub divided_is : (x d factor : ℤ) (k : ℕ) → IsReciprocal d factor k → unsigned_abs x < 4611686018427387904 → shifted_half_up (upper x factor) k ≡ rnd x d
divided_is x (pos d) (pos factor) k r h =
    let even = r.even in
    let positive = r.positive in
    let e : 2 * (d / 2) ≡ d = omega arith in
    let some : 0 < d / 2 = omega (arith, ints) in
    let above : 2 ^ (k + 65) < factor * (2 * (d / 2)) = rw e r.above in
    let near : factor * (2 * (d / 2)) ≤ 2 ^ (k + 65) + 2 * (d / 2) = rw e r.near in
    let room : 2 * (d / 2) * 4611686018427387904 ≤ 2 ^ (k + 65) = rw e r.room in
    subst (λ (m : ℕ). shifted_half_up (upper x (pos factor)) k ≡ rnd x (pos m)) e (of_number x (d / 2) factor k h some above near room)
divided_is x (negsuc d) factor k r h = absurd (omega (arith, ints, r.positive))
divided_is x (pos d) (negsuc factor) k r h = absurd (omega (arith, ints, r.least))

-- sizes of upper halves
shifted_size : (z : ℤ) (n : ℕ) → unsigned_abs z ≤ n * 9223372036854775808 → unsigned_abs (shr_z z 18446744073709551616) ≤ n
shifted_size (pos p) n h = omega arith
shifted_size (negsuc p) n h = omega arith

pub upper_size : (a b : ℤ) → unsigned_abs b ≤ 9223372036854775808 → unsigned_abs (upper a b) ≤ unsigned_abs a
unfolding upper
upper_size a b h = shifted_size (a *ℤ b) (unsigned_abs a) (rw (unsigned_abs-mul a b) (mul-le (unsigned_abs a) (unsigned_abs b) (unsigned_abs a) 9223372036854775808 (omega arith) h))

half_size : (z : ℤ) → unsigned_abs z ≤ 85070591730234615865843651857942052864 → unsigned_abs (shr_z z 18446744073709551616) ≤ 4611686018427387904
half_size (pos p) h = omega arith
half_size (negsuc p) h = omega arith

pub upper_fits : (a b : ℤ) → FitsSigned w64 a → FitsSigned w64 b → FitsSigned w64 (shr_z (a *ℤ b) 18446744073709551616)
upper_fits a b f g =
    let s : unsigned_abs (a *ℤ b) ≤ 9223372036854775808 * 9223372036854775808 = rw (unsigned_abs-mul a b) (mul-le (unsigned_abs a) (unsigned_abs b) 9223372036854775808 9223372036854775808 (size a f) (size b g)) in
    let t = half_size (a *ℤ b) (omega arith) in
    fits_signed_from_abs w64 (shr_z (a *ℤ b) 18446744073709551616) (omega arith)

pub billion : IsReciprocal (pos 1000000000) (pos 4951760157141521100) 27
billion = record {
  positive = omega (arith, ints);
  even = refl;
  least = omega (arith, ints);
  small = omega arith;
  above = omega arith;
  near = omega arith;
  room = omega arith;
}
