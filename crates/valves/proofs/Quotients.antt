-- The sizes of the numbers of a valve.
use Rattle.std.proofs.Common.{◌≡◌, ℕ, ◌+◌, ◌*◌, ◌<◌, ◌≤◌, ℤ, pos, negsuc, ◌*ℤ◌, ◌≤ℤ◌, int_le, false, not, unsigned_abs, FitsSigned, rules, arith}
use Rattle.std.specs.Int.{w128}
use Rattle.std.proofs.lemmas.Int.{ints, unsigned_abs-mul, fits_signed_mul}
use Rattle.std.proofs.lemmas.Nat.{mul-le}
use Rattle.fixed_num.specs.Rounding.{rnd}
use Rattle.case_model.specs.Limits.{IsWithin}
use Rattle.case_model.specs.Refusals.{is_over}
use Rattle.charline.specs.Characteristics.{IsImpedance}
use Rattle.charline.proofs.Sizes.{mean_below}
use Rattle.fixed_num.proofs.RootLaws.{no_less}
use Rattle.valves.specs.Orifices.{IsOrifice}

-- the head of a flow at an impedance
pub head_fits : (b q : ℤ) → IsImpedance b → unsigned_abs q ≤ 200000000000000000 → FitsSigned w128 (b *ℤ q)
head_fits b q h k = fits_signed_mul w128 b q 10000000000000 200000000000000000 (omega (arith, ints)) k (omega arith)

pub head_below : (b q x : ℤ) → IsImpedance b → unsigned_abs q ≤ 200000000000000000 → 2 * unsigned_abs x * 1000000000 ≤ 2 * unsigned_abs (b *ℤ q) + 1000000000 → unsigned_abs x ≤ 10000000000000000000000
head_below b q x h k m =
    let s : unsigned_abs (b *ℤ q) ≤ 10000000000000 * 200000000000000000 = rw (unsigned_abs-mul b q) (mul-le (unsigned_abs b) (unsigned_abs q) 10000000000000 200000000000000000 (omega (arith, ints)) k) in
    omega arith

-- the flow of a valve at an opening
rnd_sign : (n d : ℤ) → pos 0 ≤ℤ n → pos 0 ≤ℤ rnd n d
unfolding rnd
rnd_sign (pos n) d h = omega (arith, ints)
rnd_sign (negsuc n) d h = absurd (omega (arith, ints))

product_sign : (x y : ℤ) → pos 0 ≤ℤ x → pos 0 ≤ℤ y → pos 0 ≤ℤ (x *ℤ y)
product_sign (pos x) (pos y) h k = search rules
product_sign (pos x) (negsuc y) h k = absurd (omega (arith, ints))
product_sign (negsuc x) y h k = absurd (omega (arith, ints))

pub open_fits : (q0 opening : ℤ) → IsWithin (pos 0) (pos 1000000000000) q0 → IsWithin (pos 0) (pos 1000000) opening → FitsSigned w128 (q0 *ℤ opening)
open_fits q0 opening h k = fits_signed_mul w128 q0 opening 1000000000000 1000000 (omega (arith, ints)) (omega (arith, ints)) (omega arith)

pub open_below : (q0 opening x : ℤ) → IsWithin (pos 0) (pos 1000000000000) q0 → IsWithin (pos 0) (pos 1000000) opening → 2 * unsigned_abs x * 1000000 ≤ 2 * unsigned_abs (q0 *ℤ opening) + 1000000 → unsigned_abs x ≤ unsigned_abs q0
open_below q0 opening x h k m =
    let s : unsigned_abs (q0 *ℤ opening) ≤ unsigned_abs q0 * 1000000 = rw (unsigned_abs-mul q0 opening) (mul-le (unsigned_abs q0) (unsigned_abs opening) (unsigned_abs q0) 1000000 (omega arith) (omega (arith, ints))) in
    omega arith

pub open_sign : (q0 opening x : ℤ) → IsWithin (pos 0) (pos 1000000000000) q0 → IsWithin (pos 0) (pos 1000000) opening → x ≡ rnd (q0 *ℤ opening) (pos 1000000) → pos 0 ≤ℤ x
open_sign q0 opening x h k e = rw e (rnd_sign (q0 *ℤ opening) (pos 1000000) (product_sign q0 opening h.low k.low))

pub open_within : (q0 opening x : ℤ) → IsWithin (pos 0) (pos 1000000000000) q0 → IsWithin (pos 0) (pos 1000000) opening → x ≡ rnd (q0 *ℤ opening) (pos 1000000) → 2 * unsigned_abs x * 1000000 ≤ 2 * unsigned_abs (q0 *ℤ opening) + 1000000 → IsWithin (pos 0) q0 x
open_within q0 opening x h k e m =
    let low = open_sign q0 opening x h k e in
    let below = open_below q0 opening x h k m in
    record { low = low; high = omega (arith, ints) }

-- the square of a flow under a loss
pub share_below : (n h0 x : ℤ) → unsigned_abs n ≤ 1000000000000000000000000 → IsWithin (pos 10000) (pos 100000000000) h0 → 2 * unsigned_abs x * unsigned_abs h0 ≤ 2 * unsigned_abs n + unsigned_abs h0 → unsigned_abs x ≤ 100000000000000000001
share_below n h0 x h k m =
    let l : 10000 ≤ unsigned_abs h0 = omega (arith, ints) in
    let s : unsigned_abs x ≤ 100000000000000000000 = mean_below (unsigned_abs x) (unsigned_abs h0) (unsigned_abs n) 100000000000000000000 (omega arith) (omega arith) m in
    omega arith

-- the half flow: the product of a valve bounds it
allowed : (x y : ℤ) → not (int_le x y) ≡ false → x ≤ℤ y
allowed x y h = grind (arith, ints)

not_over : (b q0 h0 : ℤ) → IsOrifice b q0 h0 → (b *ℤ q0 *ℤ q0) ≤ℤ (pos 2000000000000000000000000 *ℤ h0)
unfolding is_over
not_over b q0 h0 o = allowed (b *ℤ q0 *ℤ q0) (pos 2000000000000000000000000 *ℤ h0) o.product

half_nat : (b q w h : ℕ) → w ≤ q → b * q * q ≤ 2000000000000000000000000 * h → b * (w * w) ≤ 1000000000000000 * (2000000000 * h)
half_nat b q w h l p =
    let e : w * w ≤ q * q = mul-le w w q q l l in
    let f : b * (w * w) ≤ b * (q * q) = mul-le b (w * w) b (q * q) (omega arith) e in
    omega arith

half_product : (b q0 w h0 : ℤ) → IsOrifice b q0 h0 → IsWithin (pos 0) q0 w → unsigned_abs (b *ℤ (w *ℤ w)) ≤ 1000000000000000 * unsigned_abs (pos 2000000000 *ℤ h0)
half_product (pos b) (pos q) (pos w) (pos h) o i =
    let p : b * q * q ≤ 2000000000000000000000000 * h = omega (arith, ints, not_over (pos b) (pos q) (pos h) o) in
    half_nat b q w h (omega (arith, ints)) p
half_product (pos b) (pos q) (pos w) (negsuc h) o i = let l = o.valve.loss.low in absurd (omega (arith, ints))
half_product (pos b) (pos q) (negsuc w) h o i = let l = i.low in absurd (omega (arith, ints))
half_product (pos b) (negsuc q) w h o i = let l = o.valve.flow.low in absurd (omega (arith, ints))
half_product (negsuc b) q w h o i = let l = o.impedance.low in absurd (omega (arith, ints))

pub half_below : (b q0 w h0 square x : ℤ) → IsOrifice b q0 h0 → IsWithin (pos 0) q0 w → square ≡ w *ℤ w → 2 * unsigned_abs x * unsigned_abs (pos 2000000000 *ℤ h0) ≤ 2 * unsigned_abs (b *ℤ square) + unsigned_abs (pos 2000000000 *ℤ h0) → unsigned_abs x ≤ 1000000000000001
half_below b q0 w h0 square x o i e m =
    let l = o.valve.loss.low in
    let some : 0 < unsigned_abs (pos 2000000000 *ℤ h0) = omega (arith, ints) in
    let p : unsigned_abs (b *ℤ square) ≤ 1000000000000000 * unsigned_abs (pos 2000000000 *ℤ h0) = rw e (half_product b q0 w h0 o i) in
    let s : unsigned_abs x ≤ 1000000000000000 = mean_below (unsigned_abs x) (unsigned_abs (pos 2000000000 *ℤ h0)) (unsigned_abs (b *ℤ square)) 1000000000000000 some p m in
    omega arith

pub half_fits : (b q0 h0 square : ℤ) → IsOrifice b q0 h0 → unsigned_abs square ≤ 1000000000000000000000000 → FitsSigned w128 (b *ℤ square)
half_fits b q0 h0 square o h =
    let low = o.impedance.low in
    let high = o.impedance.high in
    fits_signed_mul w128 b square 20000000000000 1000000000000000000000000 (omega (arith, ints)) h (omega arith)

pub root-most : (n x : ℤ) → unsigned_abs n ≤ 10000000000000000000000000000000000 → unsigned_abs x * unsigned_abs x ≤ unsigned_abs n → unsigned_abs x ≤ 100000000000000000
root-most n x h below = no_less (unsigned_abs n) (unsigned_abs x) 100000000000000000 below (omega arith)

-- what a valve is judged by
pub lost_fits : (x q0 : ℤ) → unsigned_abs x ≤ 20000000000000000000000000 → IsWithin (pos 0) (pos 1000000000000) q0 → FitsSigned w128 (x *ℤ q0)
lost_fits x q0 h k = fits_signed_mul w128 x q0 20000000000000000000000000 1000000000000 h (omega (arith, ints)) (omega arith)

pub lost_below : (x q0 : ℤ) → IsWithin (pos 0) (pos 1000000000000) q0 → unsigned_abs (x *ℤ q0) ≤ 1000000000000 * unsigned_abs x
lost_below x q0 h =
    let m : unsigned_abs (x *ℤ q0) ≤ unsigned_abs x * 1000000000000 = rw (unsigned_abs-mul x q0) (mul-le (unsigned_abs x) (unsigned_abs q0) (unsigned_abs x) 1000000000000 (omega arith) (omega (arith, ints))) in omega arith
