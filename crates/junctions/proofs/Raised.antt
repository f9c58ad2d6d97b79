-- A mean of heads, to which a multiple of the weight is added before it is divided.
use Rattle.std.proofs.Common.{◌≡◌, ℕ, zero, suc, ◌+◌, ◌*◌, ◌/◌, ◌<◌, ◌≤◌, ℤ, pos, negsuc, ◌-◌, ◌+ℤ◌, ◌-ℤ◌, neg_ℤ, unsigned_abs, ap, ◌∙◌, refl, arith}
use Rattle.std.proofs.lemmas.Int.{ints}
use Rattle.std.proofs.lemmas.Nat.{le-div, div_below}
use Rattle.fixed_num.specs.Rounding.{rnd, half_up}
use Rattle.fixed_num.proofs.Nearest.{half_up-parts}
use Rattle.junctions.specs.Means.{twice_down}

quotient_is : (n d q : ℕ) → 0 < d → q * d ≤ n → n < suc q * d → n / d ≡ q
quotient_is n d q p low high = omega (arith, le-div q n d p low, div_below n d (suc q) p high)

raised_up : (n d : ℕ) → 0 < d → (2 * n + d * 36028797018963969) / (2 * d) ≡ half_up n d + 18014398509481984
raised_up n d p =
    let parts = half_up-parts n d p in
    let low = parts.0 in
    let high = parts.1 in
    quotient_is (2 * n + d * 36028797018963969) (2 * d) (half_up n d + 18014398509481984) (omega arith) (omega arith) (omega arith)

raised_down : (n d r q : ℕ) → 0 < d → q + half_up n d ≡ 18014398509481984 → r + 2 * n + 1 ≡ d * 36028797018963969 → r / (2 * d) ≡ q
raised_down n d r q p split e =
    let parts = half_up-parts n d p in
    let low = parts.0 in
    let high = parts.1 in
    let product : q * d + half_up n d * d ≡ 18014398509481984 * d = omega (arith, ap (λ (x : ℕ). x * d) split) in
    quotient_is r (2 * d) q (omega arith) (omega arith) (omega arith)

few_up : (n d : ℕ) → 0 < d → n ≤ 10010000000000000 * d → half_up n d ≤ 10010000000000000
few_up n d p h =
    let b : half_up n d < 10010000000000001 = div_below (2 * n + d) (2 * d) 10010000000000001 (omega arith) (omega arith) in omega arith

up_back : (q k : ℕ) → pos (q + k) -ℤ pos k ≡ pos q
up_back q k = omega (arith, ints)

down_back : (q h k : ℕ) → q + h ≡ k → pos q -ℤ pos k ≡ neg_ℤ (pos h)
down_back q zero k e = omega (arith, ints)
down_back q (suc h) k e = omega (arith, ints)

-- what is left of the raised mean is the mean
pub mean_is : (h : ℤ) (d r : ℕ) → 0 < d → unsigned_abs h ≤ 10010000000000000 * d → pos r ≡ twice_down h +ℤ pos (d * 36028797018963969) → pos (r / (2 * d)) -ℤ pos 18014398509481984 ≡ rnd h (pos d)
unfolding rnd
mean_is (pos n) d r p h e =
    let f : r ≡ 2 * n + d * 36028797018963969 = omega (arith, ints) in
    ap (λ (x : ℕ). pos (x / (2 * d)) -ℤ pos 18014398509481984) f ∙ ap (λ (x : ℕ). pos x -ℤ pos 18014398509481984) (raised_up n d p) ∙ up_back (half_up n d) 18014398509481984
mean_is (negsuc n) d r p h e =
    let f : r + 2 * (n + 1) + 1 ≡ d * 36028797018963969 = omega (arith, ints) in
    let few = few_up (n + 1) d p (omega arith) in
    let split : (18014398509481984 - half_up (n + 1) d) + half_up (n + 1) d ≡ 18014398509481984 = omega arith in
    ap (λ (x : ℕ). pos x -ℤ pos 18014398509481984) (raised_down (n + 1) d r (18014398509481984 - half_up (n + 1) d) p split f) ∙ down_back (18014398509481984 - half_up (n + 1) d) (half_up (n + 1) d) 18014398509481984 split

pub mean_few : (h : ℤ) (d : ℕ) → 0 < d → unsigned_abs h ≤ 10010000000000000 * d → unsigned_abs (rnd h (pos d)) ≤ 10010000000000000
unfolding rnd
mean_few (pos n) d p h = few_up n d p h
mean_few (negsuc n) d p h =
    let few = few_up (n + 1) d p (omega arith) in omega (arith, ints)
