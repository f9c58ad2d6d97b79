-- The root is the only number whose square is the greatest that fits.
use Rattle.std.proofs.Common.{◌≡◌, ℕ, zero, suc, ◌+◌, ◌*◌, ◌<◌, ◌≤◌, ℤ, pos, negsuc, ◌≤ℤ◌, unsigned_abs, ⊎_elim, ap, arith}
use Rattle.std.proofs.lemmas.Bool.{cases_lt}
use Rattle.std.proofs.lemmas.Bool.Decides.{nat_tests}
use Rattle.std.proofs.lemmas.Int.{ints}
use Rattle.std.proofs.lemmas.Nat.{mul-le}
use Rattle.fixed_num.specs.Tables.{IsRoot}
use Rattle.fixed_num.specs.Roots.{root_or_next, nat_root, root}

record IsNatRoot (n r : ℕ) : Type 0 where
  below : r * r ≤ n
  above : n < (r + 1) * (r + 1)

next-root : (n r : ℕ) → IsNatRoot n r → IsNatRoot (suc n) (root_or_next r n)
next-root n r h = record { below = grind (arith, nat_tests); above = grind (arith, nat_tests) }

nat_root-is : (n : ℕ) → IsNatRoot n (nat_root n)
unfolding nat_root
nat_root-is zero = record { below = omega arith; above = omega arith }
nat_root-is (suc n) = next-root n (nat_root n) (nat_root-is n)

pub root-is : (n : ℤ) → pos 0 ≤ℤ n → IsRoot n (root n)
unfolding root
root-is n h = let r = nat_root-is (unsigned_abs n) in record { low = omega (arith, ints); below = r.below; above = r.above }

pub no_less : (n x y : ℕ) → x * x ≤ n → n < (y + 1) * (y + 1) → x ≤ y
no_less n x y h k =
    ⊎_elim (λ over. let f : (y + 1) * (y + 1) ≤ x * x = mul-le (y + 1) (y + 1) x x (omega arith) (omega arith) in absurd (omega arith)) (λ within. within) (cases_lt y x)

pub root-only : (n x : ℤ) → pos 0 ≤ℤ n → pos 0 ≤ℤ x → unsigned_abs x * unsigned_abs x ≤ unsigned_abs n → unsigned_abs n < (unsigned_abs x + 1) * (unsigned_abs x + 1) → x ≡ root n
unfolding root
root-only n (pos x) h low below above =
    let r = nat_root-is (unsigned_abs n) in
    let low = no_less (unsigned_abs n) x (nat_root (unsigned_abs n)) below r.above in
    let high = no_less (unsigned_abs n) (nat_root (unsigned_abs n)) x r.below above in
    let e : x ≡ nat_root (unsigned_abs n) = omega arith in ap pos e
root-only n (negsuc x) h low below above = absurd (omega (arith, ints))
