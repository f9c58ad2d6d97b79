-- The sizes of rounded quotients along a pipe.
use Rattle.std.proofs.Common.{ℕ, zero, suc, ◌+◌, ◌*◌, ◌/◌, ◌%◌, ◌<◌, ◌≤◌, ◌≡◌, ℤ, pos, ◌*ℤ◌, ◌≤ℤ◌, unsigned_abs, ⊎_elim, ap, ◌∙◌, FitsSigned, w64, arith}
use Rattle.std.specs.Int.{w128}
use Rattle.std.proofs.lemmas.Int.{ints, unsigned_abs-mul, fits_signed_from_abs, fits_signed_mul}
use Rattle.std.proofs.lemmas.Bool.{cases_lt}
use Rattle.std.proofs.lemmas.Nat.{mul-le}
use Rattle.charline.specs.Characteristics.{IsImpedance}

pub fits_wide : (z : ℤ) → unsigned_abs z ≤ 100000000000000000000000000000000 → FitsSigned w128 z
fits_wide z h = fits_signed_from_abs w128 z (omega arith)

size_of_impedance : (b : ℤ) → IsImpedance b → unsigned_abs b ≤ 10000000000000
size_of_impedance b h = omega (arith, ints)

-- the head of a flow at an impedance
pub head_below : (b q x : ℤ) → IsImpedance b → unsigned_abs q ≤ 1000000000000 → 2 * unsigned_abs x * 1000000000 ≤ 2 * unsigned_abs (b *ℤ q) + 1000000000 → unsigned_abs x ≤ 10000000000000000
head_below b q x h k m =
    let s : unsigned_abs (b *ℤ q) ≤ 10000000000000 * 1000000000000 = rw (unsigned_abs-mul b q) (mul-le (unsigned_abs b) (unsigned_abs q) 10000000000000 1000000000000 (size_of_impedance b h) k) in
    omega arith

quotient_below : (x b n : ℕ) → 100000 ≤ b → n ≤ 20000000000000000000000 → 2 * x * b ≤ 2 * n + b → x ≤ 200000000000000000
quotient_below zero b n h k m = omega arith
quotient_below (suc x) b n h k m =
    let e : (2 * x + 1) * 100000 ≤ (2 * x + 1) * b = mul-le (2 * x + 1) 100000 (2 * x + 1) b (omega arith) h in omega arith

-- the flow that a difference of heads drives
pub flow_below : (head b x : ℤ) → unsigned_abs head ≤ 20000000000000 → pos 100000 ≤ℤ b → 2 * unsigned_abs x * unsigned_abs b ≤ 2 * unsigned_abs (head *ℤ pos 1000000000) + unsigned_abs b → unsigned_abs x ≤ 200000000000000000
flow_below head b x h k m =
    let s : unsigned_abs (head *ℤ pos 1000000000) ≤ 20000000000000000000000 = rw (unsigned_abs-mul head (pos 1000000000)) (omega arith) in
    quotient_below (unsigned_abs x) (unsigned_abs b) (unsigned_abs (head *ℤ pos 1000000000)) (omega (arith, ints)) s m

pub fits_product : (b q : ℤ) → IsImpedance b → unsigned_abs q ≤ 1000000000000 → FitsSigned w128 (b *ℤ q)
fits_product b q h k = fits_signed_mul w128 b q 10000000000000 1000000000000 (size_of_impedance b h) k (omega arith)

-- a product by the millions of a factor and the rest
distributed : (a b q : ℕ) → a * q * 1000000 + b * q ≡ (a * 1000000 + b) * q
distributed a b q = omega arith

pub millions_and_rest : (r q : ℕ) → r / 1000000 * q * 1000000 + r % 1000000 * q ≡ r * q
millions_and_rest r q =
    let e : r / 1000000 * 1000000 + r % 1000000 ≡ r = omega arith in
    distributed (r / 1000000) (r % 1000000) q ∙ ap (λ (n : ℕ). n * q) e

-- the volume that a growth gains in a time step
pub gained_product : (dt growth : ℤ) → pos 1 ≤ℤ dt → dt ≤ℤ pos 1000000 → unsigned_abs growth ≤ 200000000000000000000 → FitsSigned w128 (dt *ℤ growth)
gained_product dt growth least most h =
    fits_signed_mul w128 dt growth 1000000 200000000000000000000 (omega (arith, ints)) h (omega arith)

pub gained_below : (dt growth x : ℤ) → pos 1 ≤ℤ dt → dt ≤ℤ pos 1000000 → unsigned_abs growth ≤ 200000000000000000000 → 2 * unsigned_abs x * 10000000 ≤ 2 * unsigned_abs (dt *ℤ growth) + 10000000 → unsigned_abs x ≤ 20000000000000000001
gained_below dt growth x least most h m =
    let s : unsigned_abs (dt *ℤ growth) ≤ 1000000 * 200000000000000000000 = rw (unsigned_abs-mul dt growth) (mul-le (unsigned_abs dt) (unsigned_abs growth) 1000000 200000000000000000000 (omega (arith, ints)) h) in
    omega arith

-- a rounded quotient is no further from 0 than what bounds the quotient
pub mean_below : (x w h most : ℕ) → 0 < w → h ≤ most * w → 2 * x * w ≤ 2 * h + w → x ≤ most
mean_below x w h most p k m =
    ⊎_elim (λ over. let f : suc most * w ≤ x * w = mul-le (suc most) w x w over (omega arith) in absurd (omega arith)) (λ within. within) (cases_lt most x)

-- a head that counts by an impedance
pub weighted_fits : (c z : ℤ) → unsigned_abs c ≤ 10000000000000 → IsImpedance z → FitsSigned w128 (c *ℤ z)
weighted_fits c z h k = fits_signed_mul w128 c z 10000000000000 10000000000000 h (size_of_impedance z k) (omega arith)

pub weighted_below : (c z : ℤ) → unsigned_abs c ≤ 10000000000000 → unsigned_abs (c *ℤ z) ≤ 10000000000000 * unsigned_abs z
weighted_below c z h = rw (unsigned_abs-mul c z) (mul-le (unsigned_abs c) (unsigned_abs z) 10000000000000 (unsigned_abs z) h (omega arith))

-- the flow that a difference of heads drives through twice an impedance
pub flow_by_twice_below : (d x most twice : ℤ) (b : ℕ) → twice ≡ pos (2 * b) → 0 < b → unsigned_abs d ≤ unsigned_abs most → unsigned_abs most ≤ 2000 * b
    → 2 * unsigned_abs x * unsigned_abs twice ≤ 2 * unsigned_abs (d *ℤ pos 1000000000) + unsigned_abs twice → unsigned_abs x ≤ 1000000000000
flow_by_twice_below d x most twice b e some within few h =
    let k : 2 * unsigned_abs x * (2 * b) ≤ 2 * unsigned_abs (d *ℤ pos 1000000000) + 2 * b = rw e at h in
    let s : unsigned_abs (d *ℤ pos 1000000000) ≤ 1000000000000 * (2 * b) = rw (unsigned_abs-mul d (pos 1000000000)) (omega arith) in
    mean_below (unsigned_abs x) (2 * b) (unsigned_abs (d *ℤ pos 1000000000)) 1000000000000 (omega arith) s k

pub difference_fits : (d : ℤ) → unsigned_abs d ≤ 4611686018 → FitsSigned w64 (d *ℤ pos 1000000000)
difference_fits d h = fits_signed_from_abs w64 (d *ℤ pos 1000000000) (rw (unsigned_abs-mul d (pos 1000000000)) (omega arith))

-- a flow up to which a product with an impedance is below 2^62
pub few_product : (b few : ℕ) (q : ℤ) → unsigned_abs q ≤ few → b * few < 4611686018427387904 → unsigned_abs (pos b *ℤ q) < 4611686018427387904
few_product b few q h k =
    let m : b * unsigned_abs q ≤ b * few = mul-le b (unsigned_abs q) b few (omega arith) h in
    rw (unsigned_abs-mul (pos b) q) (omega arith)
