-- Numbers times a speed ratio: their sizes, signs and order.
use Rattle.std.proofs.Common.{ℕ, ◌+◌, ◌*◌, ◌≤◌, ℤ, pos, negsuc, ◌+ℤ◌, ◌*ℤ◌, ◌≤ℤ◌, unsigned_abs, FitsSigned, arith}
use Rattle.std.specs.Int.{w128}
use Rattle.std.proofs.lemmas.Int.{ints, unsigned_abs-mul, fits_signed_mul}
use Rattle.std.proofs.lemmas.Nat.{mul-le}
use Rattle.fixed_num.specs.Rounding.{rnd, half_up}
use Rattle.case_model.specs.Limits.{IsWithin}
use Rattle.pumps.specs.Pumps.{scaled, point_at}

pub scaled_fits : (speed x : ℤ) → IsWithin (pos 0) (pos 2000000) speed → IsWithin (pos 0) (pos 1000000000000) x → FitsSigned w128 (speed *ℤ x)
scaled_fits speed x h k = fits_signed_mul w128 speed x 2000000 1000000000000 (omega (arith, ints)) (omega (arith, ints)) (omega arith)

scaled_nat : (s x : ℕ) → s ≤ 2000000 → half_up (s * x) 1000000 ≤ 2 * x
scaled_nat s x h = let e : s * x ≤ 2000000 * x = mul-le s x 2000000 x h (omega arith) in omega arith

pub scaled_within : (speed x : ℤ) → IsWithin (pos 0) (pos 2000000) speed → pos 0 ≤ℤ x → IsWithin (pos 0) (pos 2 *ℤ x) (scaled speed x)
unfolding scaled rnd
scaled_within (pos s) (pos x) h k =
    let m = scaled_nat s x (omega (arith, ints)) in record { low = omega (arith, ints); high = omega (arith, ints) }
scaled_within (pos s) (negsuc x) h k = absurd (omega (arith, ints))
scaled_within (negsuc s) x h k = let l = h.low in absurd (omega (arith, ints))

more_nat : (s x y : ℕ) → 10000 ≤ s → x + 1000 ≤ y → half_up (s * x) 1000000 + 1 ≤ half_up (s * y) 1000000
more_nat s x y h k =
    let e : s * (x + 1000) ≤ s * y = mul-le s (x + 1000) s y (omega arith) k in
    let f : s * x + 10000000 ≤ s * y = omega arith in
    omega arith

-- flows that differ by 1e-6 m3/s still differ at a hundredth of the speed
pub scaled_more : (speed x y : ℤ) → IsWithin (pos 10000) (pos 2000000) speed → pos 0 ≤ℤ x → (x +ℤ pos 1000) ≤ℤ y → (scaled speed x +ℤ pos 1) ≤ℤ scaled speed y
unfolding scaled rnd
scaled_more (pos s) (pos x) (pos y) h k l =
    let low = h.low in let m = more_nat s x y (omega (arith, ints)) (omega (arith, ints)) in omega (arith, ints)
scaled_more (pos s) (pos x) (negsuc y) h k l = absurd (omega (arith, ints))
scaled_more (pos s) (negsuc x) y h k l = absurd (omega (arith, ints))
scaled_more (negsuc s) x y h k l = let low = h.low in absurd (omega (arith, ints))

le_nat : (s x y : ℕ) → x ≤ y → half_up (s * x) 1000000 ≤ half_up (s * y) 1000000
le_nat s x y h = let e : s * x ≤ s * y = mul-le s x s y (omega arith) h in omega arith

pub scaled_le : (speed x y : ℤ) → IsWithin (pos 10000) (pos 2000000) speed → pos 0 ≤ℤ x → x ≤ℤ y → scaled speed x ≤ℤ scaled speed y
unfolding scaled rnd
scaled_le (pos s) (pos x) (pos y) h k l = let m = le_nat s x y (omega (arith, ints)) in omega (arith, ints)
scaled_le (pos s) (pos x) (negsuc y) h k l = absurd (omega (arith, ints))
scaled_le (pos s) (negsuc x) y h k l = absurd (omega (arith, ints))
scaled_le (negsuc s) x y h k l = let low = h.low in absurd (omega (arith, ints))

-- the head of a flow at an impedance
pub lost_fits : (b q : ℤ) → IsWithin (pos 200000) (pos 20000000000000) b → IsWithin (pos 0) (pos 2000000000000) q → FitsSigned w128 (b *ℤ q)
lost_fits b q h k = fits_signed_mul w128 b q 20000000000000 2000000000000 (omega (arith, ints)) (omega (arith, ints)) (omega arith)

pub lost_below : (b q x : ℤ) → IsWithin (pos 200000) (pos 20000000000000) b → IsWithin (pos 0) (pos 2000000000000) q → 2 * unsigned_abs x * 1000000000 ≤ 2 * unsigned_abs (b *ℤ q) + 1000000000 → unsigned_abs x ≤ 40000000000000001
lost_below b q x h k m =
    let s : unsigned_abs (b *ℤ q) ≤ 20000000000000 * 2000000000000 = rw (unsigned_abs-mul b q) (mul-le (unsigned_abs b) (unsigned_abs q) 20000000000000 2000000000000 (omega (arith, ints)) (omega (arith, ints))) in
    omega arith

pub product_fits : (x y : ℤ) → unsigned_abs x ≤ 30000000000000 → IsWithin (pos 0) (pos 2000000000000) y → FitsSigned w128 (x *ℤ y)
product_fits x y h k = fits_signed_mul w128 x y 30000000000000 2000000000000 h (omega (arith, ints)) (omega arith)

pub product_below : (x y : ℤ) → unsigned_abs x ≤ 30000000000000 → IsWithin (pos 0) (pos 2000000000000) y → unsigned_abs (x *ℤ y) ≤ 60000000000000000000000000
product_below x y h k =
    rw (unsigned_abs-mul x y) (mul-le (unsigned_abs x) (unsigned_abs y) 30000000000000 2000000000000 h (omega (arith, ints)))

pub product_some : (x y : ℤ) → pos 1 ≤ℤ x → pos 1 ≤ℤ y → pos 1 ≤ℤ (x *ℤ y)
product_some (pos x) (pos y) h k =
    let e : 1 * 1 ≤ x * y = mul-le 1 1 x y (omega (arith, ints)) (omega (arith, ints)) in omega (arith, ints)
product_some (pos x) (negsuc y) h k = absurd (omega (arith, ints))
product_some (negsuc x) y h k = absurd (omega (arith, ints))

widened : (speed : ℤ) → IsWithin (pos 10000) (pos 2000000) speed → IsWithin (pos 0) (pos 2000000) speed
widened speed h = let low = h.low in record { low = omega (arith, ints); high = h.high }

-- the points of a curve stay in order at a speed
pub points_rise : (speed : ℤ) (p q : ℤ × ℤ) → IsWithin (pos 10000) (pos 2000000) speed → pos 0 ≤ℤ p.0 → (p.0 +ℤ pos 1000) ≤ℤ q.0 → ((point_at speed p).0 +ℤ pos 1) ≤ℤ (point_at speed q).0
unfolding point_at
points_rise speed p q h k l = scaled_more speed p.0 q.0 h k l

pub points_fall : (speed : ℤ) (p q : ℤ × ℤ) → IsWithin (pos 10000) (pos 2000000) speed → pos 0 ≤ℤ q.1 → q.1 ≤ℤ p.1 → (point_at speed q).1 ≤ℤ (point_at speed p).1
unfolding point_at
points_fall speed p q h k l =
    scaled_le speed (scaled speed q.1) (scaled speed p.1) h (scaled_within speed q.1 (widened speed h) k).low (scaled_le speed q.1 p.1 h k l)
