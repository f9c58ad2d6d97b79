-- The sizes of products and quotients of a time step.
use Rattle.std.proofs.Common.{rules, ℕ, ◌+◌, ◌*◌, ◌≤◌, ℤ, pos, negsuc, ◌*ℤ◌, ◌≤ℤ◌, unsigned_abs, FitsSigned, arith}
use Rattle.std.specs.Int.{w128}
use Rattle.std.proofs.lemmas.Int.{ints, unsigned_abs-mul, fits_signed_mul}
use Rattle.std.proofs.lemmas.Nat.{mul-le}

-- a time step times a number
pub step_below : (dt x : ℤ) (most : ℕ) → pos 1 ≤ℤ dt → dt ≤ℤ pos 1000000 → unsigned_abs x ≤ most → unsigned_abs (dt *ℤ x) ≤ 1000000 * most
step_below dt x most low high h =
    rw (unsigned_abs-mul dt x) (mul-le (unsigned_abs dt) (unsigned_abs x) 1000000 most (omega (arith, ints)) h)

pub step_fits : (dt x : ℤ) → pos 1 ≤ℤ dt → dt ≤ℤ pos 1000000 → unsigned_abs x ≤ 20000000000000000000000000000000 → FitsSigned w128 (dt *ℤ x)
step_fits dt x low high h = fits_signed_mul w128 dt x 1000000 20000000000000000000000000000000 (omega (arith, ints)) h (omega arith)

pub step_sign : (dt x : ℤ) → pos 1 ≤ℤ dt → pos 0 ≤ℤ x → pos 0 ≤ℤ (dt *ℤ x)
step_sign (pos d) (pos n) low h = search rules
step_sign (pos d) (negsuc n) low h = absurd (omega (arith, ints))
step_sign (negsuc d) x low h = absurd (omega (arith, ints))

-- the volume of an inflow in a time step
pub gained_below : (dt growth x : ℤ) → pos 1 ≤ℤ dt → dt ≤ℤ pos 1000000 → unsigned_abs growth ≤ 10000000000000000 → 2 * unsigned_abs x * 1000000 ≤ 2 * unsigned_abs (dt *ℤ growth) + 1000000 → unsigned_abs x ≤ 10000000000000001
gained_below dt growth x low high h m = let s = step_below dt growth 10000000000000000 low high h in omega arith
