use Rattle.std.specs.Prelude.{◌≡◌, ◌+◌, ◌*◌, ◌/◌, ◌<◌, ◌≤◌, ℕ}
use Rattle.std.specs.Prelude.{ℤ, pos, negsuc, neg_ℤ, ◌-ℤ◌, ◌*ℤ◌, unsigned_abs}

-- the quotient of two sizes, rounded to the nearest, a half up
abbrev pub half_up : ℕ → ℕ → ℕ
half_up n d = (2 * n + d) / (2 * d)

-- the quotient n / d, rounded to the nearest, a half away from zero
unfoldable pub rnd : ℤ → ℤ → ℤ
rnd (pos n) d = pos (half_up n (unsigned_abs d))
rnd (negsuc n) d = neg_ℤ (pos (half_up (n + 1) (unsigned_abs d)))

-- x is a nearest integer to n / d, and of two that are as near the one further from zero
pub record IsNearest (n d x : ℤ) : Type 0 where
  pub near : 2 * unsigned_abs (n -ℤ x *ℤ d) ≤ unsigned_abs d
  pub tie : 2 * unsigned_abs (n -ℤ x *ℤ d) ≡ unsigned_abs d → unsigned_abs n < unsigned_abs (x *ℤ d)
