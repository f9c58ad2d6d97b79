-- Newton's steps towards the root: they stay above it, go down, and end there.
use Rattle.std.proofs.Common.{ℕ, zero, suc, ◌+◌, ◌-◌, ◌*◌, ◌/◌, ◌%◌, ◌^◌, ◌<◌, ◌≤◌, ◌≡◌, arith, subst, sym, inl, inr}
use Rattle.std.proofs.lemmas.Bool.{cases_lt}
use Rattle.std.proofs.lemmas.Nat.{mul-le, pow-add, pow_below, leading_top}
use Rattle.std.proofs.Math.Nat.{pow-le-pow_right}
use Rattle.std.specs.Int.Count.{count_leading_zeros}

apart : (a d : ℕ) → 4 * (a * (a + d)) ≤ (a + (a + d)) * (a + (a + d))
apart a d = omega arith

-- the square of a sum is at least four times the product
four_products : (a b : ℕ) → a ≤ b → 4 * (a * b) ≤ (a + b) * (a + b)
four_products a b h =
    let e : b ≡ a + (b - a) = omega arith in
    subst (λ (x : ℕ). 4 * (a * x) ≤ (a + x) * (a + x)) (sym e) (apart a (b - a))

pub products : (a b : ℕ) → 4 * (a * b) ≤ (a + b) * (a + b)
products a b = elim (cases_lt a b) [
  | inl p ↦ four_products a b (omega arith)
  | inr p ↦ let f = four_products b a p in omega arith
]

pub step_stays_above : (n g : ℕ) → 1 ≤ g → n < ((g + n / g) / 2 + 1) * ((g + n / g) / 2 + 1)
step_stays_above n g some =
    let q : ℕ = n / g in
    let k : ℕ = (g + q) / 2 in
    let under : n < (q + 1) * g = omega arith in
    let low : g + (q + 1) ≤ 2 * (k + 1) = omega arith in
    let four = products g (q + 1) in
    let square : (g + (q + 1)) * (g + (q + 1)) ≤ (2 * (k + 1)) * (2 * (k + 1)) = mul-le (g + (q + 1)) (g + (q + 1)) (2 * (k + 1)) (2 * (k + 1)) low low in
    omega arith

pub stands : (n g : ℕ) → 1 ≤ g → g ≤ n / g → g * g ≤ n
stands n g some h =
    let m : g * g ≤ (n / g) * g = mul-le g g (n / g) g h (omega arith) in
    omega arith

-- what half of the digits tell
half_digits : (n j h : ℕ) → n < 2 ^ suc j → suc j ≤ h + h → n < (2 ^ h + 1) * (2 ^ h + 1)
half_digits n j h below many =
    let up : 2 ^ suc j ≤ 2 ^ (h + h) = pow-le-pow_right {n = 2} (omega arith) {i = suc j} {j = h + h} many in
    let e : 2 ^ (h + h) ≡ 2 ^ h * 2 ^ h = pow-add 2 h h in
    omega arith

pub first_above : (n : ℕ) → 0 < n → n < 2 ^ 127
    → n < (1 * 2 ^ ((129 - count_leading_zeros 128 n) / 2) % 340282366920938463463374607431768211456 + 1) * (1 * 2 ^ ((129 - count_leading_zeros 128 n) / 2) % 340282366920938463463374607431768211456 + 1)
first_above n some size =
    let t = leading_top 128 n some (omega arith) in
    let h : ℕ = (129 - count_leading_zeros 128 n) / 2 in
    let many : suc t.0 ≤ h + h = omega (arith, t.1) in
    let few : h ≤ 64 = omega (arith, t.1) in
    let p : 2 ^ h < 2 ^ 65 = pow_below h 65 (omega arith) in
    let e : 1 * 2 ^ h % 340282366920938463463374607431768211456 ≡ 2 ^ h = omega arith in
    rw e (half_digits n t.0 h t.3 many)

pub step_is_some : (n g : ℕ) → (n ≡ 0 → ⊥) → 1 ≤ g → n / g < g → 1 ≤ (g + n / g) / 2
step_is_some n zero some low h = absurd (omega arith)
step_is_some n (suc zero) some low h = absurd (some (omega arith))
step_is_some n (suc (suc k)) some low h = omega arith
