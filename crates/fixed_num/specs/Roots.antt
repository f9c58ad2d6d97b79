-- The integer root.
use Rattle.std.specs.Prelude.{ℕ, zero, suc, ◌+◌, ◌*◌, nat_le, ℤ, pos, unsigned_abs, if◌then◌else◌}

-- a root of n, and that of n + 1: one more where its square still fits
abbrev pub root_or_next : ℕ → ℕ → ℕ
root_or_next r n = if nat_le ((r + 1) * (r + 1)) (suc n) then r + 1 else r

-- the greatest whole number whose square is at most n
unfoldable pub nat_root : ℕ → ℕ
nat_root zero = 0
nat_root (suc n) = root_or_next (nat_root n) n

unfoldable pub root : ℤ → ℤ
root n = pos (nat_root (unsigned_abs n))
