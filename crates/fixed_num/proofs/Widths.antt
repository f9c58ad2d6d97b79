-- How long the text of a number is at most.
use Rattle.std.proofs.Common.{ℕ, ℤ, zero, suc, ◌+◌, ◌-◌, ◌*◌, ◌/◌, ◌^◌, ◌<◌, ◌≤◌, ◌≡◌, ◌++◌, length, length-append, arith, subst}
use Rattle.std.specs.Prelude.{pos, negsuc, unsigned_abs}
use Rattle.std.specs.Fmt.{decimal}
use Rattle.std.proofs.lemmas.Fmt.{length-decimal-le_wide}
use Rattle.std.proofs.lemmas.Nat.{div_below, pow-add}
use Rattle.std.proofs.Math.Nat.{div-le_self, one-le-pow}
use Rattle.fixed_num.specs.Written.{sign, fraction_text, written}
use Rattle.fixed_num.proofs.Texts.{length-last_digits}

short_sign : (z : ℤ) → length (sign z) ≤ 1
short_sign (pos n) = omega arith
short_sign (negsuc n) = omega arith

short_fraction : (places n : ℕ) → length (fraction_text places n) ≤ places + 1
short_fraction zero n = omega arith
short_fraction (suc k) n = omega (arith, length-last_digits (suc k) n)

some_power : (k : ℕ) → 0 < 10 ^ k
some_power k = let e : 1 ≤ 10 ^ k = one-le-pow k 10 (omega arith) in omega arith

short_whole : (places k n limit : ℕ) → 0 < k → k + places ≡ limit → n < 10 ^ limit → n < 10 ^ 64 → length (decimal (n / 10 ^ places)) ≤ k
short_whole places k n limit some sum small wide =
    let split : 10 ^ limit ≡ 10 ^ k * 10 ^ places = subst (λ (m : ℕ). 10 ^ m ≡ 10 ^ k * 10 ^ places) sum (pow-add 10 k places) in
    let below : n < 10 ^ k * 10 ^ places = subst (λ (m : ℕ). n < m) split small in
    let less : n / 10 ^ places < 10 ^ k = div_below n (10 ^ places) (10 ^ k) (some_power places) below in
    let self : n / 10 ^ places ≤ n = div-le_self n (10 ^ places) in
    length-decimal-le_wide k (n / 10 ^ places) some less (omega arith)

short_parts : (places n : ℕ) (z : ℤ) → places ≤ 9 → n < 10 ^ 20 → length (sign z ++ decimal (n / 10 ^ places) ++ fraction_text places n) ≤ 22
short_parts places n z few small =
    let whole : length (decimal (n / 10 ^ places)) ≤ 20 - places = short_whole places (20 - places) n 20 (omega arith) (omega arith) small (omega arith) in
    let fraction = short_fraction places n in
    let front = short_sign z in
    omega (arith, length-append (sign z ++ decimal (n / 10 ^ places)) (fraction_text places n), length-append (sign z) (decimal (n / 10 ^ places)))

-- a number of 64 bits with up to 9 places has at most 22 bytes
pub short_written : (places : ℕ) (z : ℤ) → places ≤ 9 → unsigned_abs z < 10 ^ 20 → length (written places z) ≤ 22
unfolding written
short_written places z few small = short_parts places (unsigned_abs z) z few small
