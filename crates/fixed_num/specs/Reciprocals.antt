-- A divisor by which many numbers are divided: rounded quotients by a product and a shift.
use Rattle.std.specs.Prelude.{◌≡◌, ℕ, ◌+◌, ◌*◌, ◌%◌, ◌^◌, ◌<◌, ◌≤◌, ℤ, pos, ◌+ℤ◌, ◌*ℤ◌, ◌≤ℤ◌, ◌<ℤ◌}
use Rattle.std.specs.Prelude.{unsigned_abs}
use Rattle.std.specs.Int.{int_shr}

-- a product in units of 2^64, rounded down
unfoldable pub upper : ℤ → ℤ → ℤ
upper a b = int_shr (a *ℤ b) 64

-- a number in units of 2^(shift + 1), rounded to the nearest, a half up
unfoldable pub shifted_half_up : ℤ → ℕ → ℤ
shifted_half_up x shift = int_shr (x +ℤ pos (2 ^ shift)) (shift + 1)

-- an even divisor d, and a factor that is 2^(shift + 65) / d, by at most 1 too great; the shift is
-- such that the factor tells the quotients of all numbers below 2^62
pub record IsReciprocal (d factor : ℤ) (shift : ℕ) : Type 0 where
  pub positive : pos 0 <ℤ d
  pub even : unsigned_abs d % 2 ≡ 0
  pub least : pos 0 ≤ℤ factor
  pub small : shift ≤ 60
  pub above : 2 ^ (shift + 65) < unsigned_abs factor * unsigned_abs d
  pub near : unsigned_abs factor * unsigned_abs d ≤ 2 ^ (shift + 65) + unsigned_abs d
  pub room : unsigned_abs d * 4_611_686_018_427_387_904 ≤ 2 ^ (shift + 65)
