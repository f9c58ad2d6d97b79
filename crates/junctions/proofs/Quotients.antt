-- The sizes of rounded quotients at a node.
use Rattle.std.proofs.Common.{◌≡◌, ℕ, suc, ◌+◌, ◌*◌, ◌/◌, ◌%◌, ◌<◌, ◌≤◌, ℤ, pos, negsuc, ◌*ℤ◌, ◌≤ℤ◌, unsigned_abs, arith}
use Rattle.std.proofs.lemmas.Int.{ints, unsigned_abs-mul}
use Rattle.std.proofs.lemmas.Nat.{le-div, div_below}
use Rattle.fixed_num.specs.Rounding.{rnd, half_up}
use Rattle.charline.specs.Characteristics.{driven_flow}
use Rattle.charline.proofs.Sizes.{mean_below}

pub mean_size : (x heads weights : ℤ) → pos 1 ≤ℤ weights → unsigned_abs heads ≤ 10010000000000000 * unsigned_abs weights → 2 * unsigned_abs x * unsigned_abs weights ≤ 2 * unsigned_abs heads + unsigned_abs weights → unsigned_abs x ≤ 10010000000000000
mean_size x heads weights p k m = mean_below (unsigned_abs x) (unsigned_abs weights) (unsigned_abs heads) 10010000000000000 (omega (arith, ints)) k m

-- a quotient and its rest give the rounded quotient
pub rounded_down : (n d q r : ℕ) → 0 < d → n ≡ q * d + r → 2 * r < d → half_up n d ≡ q
rounded_down n d q r p e h =
    let low : q ≤ half_up n d = le-div q (2 * n + d) (2 * d) (omega arith) (omega arith) in
    let high : half_up n d < suc q = div_below (2 * n + d) (2 * d) (suc q) (omega arith) (omega arith) in
    omega arith

pub rounded_up : (n d q r : ℕ) → 0 < d → n ≡ q * d + r → r < d → d ≤ 2 * r → half_up n d ≡ q + 1
rounded_up n d q r p e b h =
    let low : q + 1 ≤ half_up n d = le-div (q + 1) (2 * n + d) (2 * d) (omega arith) (omega arith) in
    let high : half_up n d < suc (q + 1) = div_below (2 * n + d) (2 * d) (suc (q + 1)) (omega arith) (omega arith) in
    omega arith

-- a number times a thousand, by the quotient of the number and of a thousand times its rest
pub thousands : (n d : ℕ) → n * 1000 ≡ (n / d * 1000 + n % d * 1000 / d) * d + n % d * 1000 % d
thousands n d =
    let e : n ≡ n / d * d + n % d = omega arith in
    let f : n % d * 1000 ≡ n % d * 1000 / d * d + n % d * 1000 % d = omega arith in
    omega arith

quotient_most : (n d : ℕ) → 100000 ≤ d → n ≤ 10100000000000000000000 → half_up n d < 110000000000000000
quotient_most n d low h = div_below (2 * n + d) (2 * d) 110000000000000000 (omega arith) (omega arith)

rnd_most : (n b : ℤ) → pos 100000 ≤ℤ b → unsigned_abs n ≤ 10100000000000000000000 → unsigned_abs (rnd n b) ≤ 110000000000000000
unfolding rnd
rnd_most (pos n) b low h =
    let q = quotient_most n (unsigned_abs b) (omega (arith, ints)) h in omega (arith, ints)
rnd_most (negsuc n) b low h =
    let q = quotient_most (n + 1) (unsigned_abs b) (omega (arith, ints)) (omega arith) in omega (arith, ints)

-- the flow that the difference to a head in range drives
pub inflow_most : (head b : ℤ) → pos 100000 ≤ℤ b → unsigned_abs head ≤ 10100000000000 → unsigned_abs (driven_flow head b) ≤ 110000000000000000
unfolding driven_flow
inflow_most head b low h =
    let s : unsigned_abs (head *ℤ pos 1000000000) ≤ 10100000000000000000000 = rw (unsigned_abs-mul head (pos 1000000000)) (omega arith) in
    rnd_most (head *ℤ pos 1000000000) b low s
