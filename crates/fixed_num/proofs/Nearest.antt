use Rattle.std.proofs.Common.{ℕ, zero, suc, ◌+◌, ◌-◌, ◌*◌, ◌/◌, ◌<◌, ◌≤◌, ◌≡◌, ap, sym, refl, arith, add-one, ℤ, pos, negsuc, neg_ℤ, ◌-ℤ◌, ◌*ℤ◌, ◌<ℤ◌, unsigned_abs}
use Rattle.std.proofs.lemmas.Int.{ints}
use Rattle.std.proofs.lemmas.Nat.{le-div, div_below}
use Rattle.fixed_num.specs.Rounding.{half_up, rnd, IsNearest}

quotient_only : (n m q : ℕ) → 0 < m → q * m ≤ n → n < suc q * m → n / m ≡ q
quotient_only n m q p low high = omega (arith, le-div q n m p low, div_below n m (suc q) p high)

pub half_up-parts : (n d : ℕ) → 0 < d → (2 * (half_up n d * d) ≤ 2 * n + d) × (2 * n < 2 * (half_up n d * d) + d)
half_up-parts n d p = omega arith

-- a multiple of the divisor that is near the number is that of the rounded quotient
pub half_up-only : (n k d : ℕ) → 0 < d → 2 * (k * d) ≤ 2 * n + d → 2 * n < 2 * (k * d) + d → k ≡ half_up n d
half_up-only n k d p low high = sym (quotient_only (2 * n + d) (2 * d) k (omega arith) (omega arith) (omega arith))

-- the distance of a number from a multiple of the divisor, by the signs of both
distance_up : (n k d : ℕ) → unsigned_abs (pos n -ℤ pos k *ℤ pos d) ≡ (n - k * d) + (k * d - n)
distance_up n k d = omega (arith, ints)

distance_across_up : (n k d : ℕ) → unsigned_abs (pos n -ℤ negsuc k *ℤ pos d) ≡ n + suc k * d
distance_across_up n k d = omega (arith, ints)

distance_down : (n k d : ℕ) → unsigned_abs (negsuc n -ℤ neg_ℤ (pos k) *ℤ pos d) ≡ (suc n - k * d) + (k * d - suc n)
distance_down n zero d = omega (arith, ints)
distance_down n (suc k) d = omega (arith, ints)

distance_across_down : (n k d : ℕ) → unsigned_abs (negsuc n -ℤ pos (suc k) *ℤ pos d) ≡ suc n + suc k * d
distance_across_down n k d = omega (arith, ints)

-- the bounds of a nearest multiple, and back
bounds : (n k d : ℕ) → 2 * ((n - k * d) + (k * d - n)) ≤ d → (2 * ((n - k * d) + (k * d - n)) ≡ d → n < k * d) → (2 * (k * d) ≤ 2 * n + d) × (2 * n < 2 * (k * d) + d)
bounds n k d near tie = (omega arith, grind arith)

near_by_bounds : (n k d : ℕ) → 2 * (k * d) ≤ 2 * n + d → 2 * n < 2 * (k * d) + d → 2 * ((n - k * d) + (k * d - n)) ≤ d
near_by_bounds n k d low high = omega arith

tie_by_bounds : (n k d : ℕ) → 2 * (k * d) ≤ 2 * n + d → 2 * n < 2 * (k * d) + d → 2 * ((n - k * d) + (k * d - n)) ≡ d → n < k * d
tie_by_bounds n k d low high even = omega arith

mirrored : (k : ℕ) → unsigned_abs (neg_ℤ (pos k)) ≡ k
mirrored zero = refl
mirrored (suc k) = refl

size_down : (k d : ℕ) → unsigned_abs (neg_ℤ (pos k) *ℤ pos d) ≡ k * d
size_down zero d = omega (arith, ints)
size_down (suc k) d = omega (arith, ints)

nearest_up : (n k d : ℕ) → 2 * (k * d) ≤ 2 * n + d → 2 * n < 2 * (k * d) + d → IsNearest (pos n) (pos d) (pos k)
nearest_up n k d low high = record {
  near = rw distance_up (near_by_bounds n k d low high);
  tie = rw distance_up (tie_by_bounds n k d low high);
}

nearest_down : (n k d : ℕ) → 2 * (k * d) ≤ 2 * suc n + d → 2 * suc n < 2 * (k * d) + d → IsNearest (negsuc n) (pos d) (neg_ℤ (pos k))
nearest_down n k d low high = record {
  near = rw distance_down (near_by_bounds (suc n) k d low high);
  tie = rw (distance_down, size_down) (tie_by_bounds (suc n) k d low high);
}

pub nearest : (n d : ℤ) → pos 0 <ℤ d → IsNearest n d (rnd n d)
unfolding rnd
nearest (pos n) (pos d) p =
    let parts = half_up-parts n d (omega (arith, ints)) in nearest_up n (half_up n d) d parts.0 parts.1
nearest (negsuc n) (pos d) p =
    let parts = half_up-parts (suc n) d (omega (arith, ints)) in rw add-one (nearest_down n (half_up (suc n) d) d parts.0 parts.1)
nearest n (negsuc d) p = absurd (omega (arith, ints))

only_up : (n d : ℕ) (x : ℤ) → 0 < d → IsNearest (pos n) (pos d) x → x ≡ pos (half_up n d)
only_up n d (pos k) p h =
    let near = rw distance_up at h.near in
    let tie = rw distance_up at h.tie in
    let low_high = bounds n k d near tie in ap pos (half_up-only n k d p low_high.0 low_high.1)
only_up n d (negsuc k) p h = let near = rw distance_across_up at h.near in absurd (omega arith)

only_down_by : (n k d : ℕ) → 0 < d → IsNearest (negsuc n) (pos d) (neg_ℤ (pos k)) → k ≡ half_up (suc n) d
only_down_by n k d p h =
    let near = rw distance_down at h.near in
    let tie = rw (distance_down, size_down) at h.tie in
    let low_high = bounds (suc n) k d near tie in half_up-only (suc n) k d p low_high.0 low_high.1

only_down : (n d : ℕ) (x : ℤ) → 0 < d → IsNearest (negsuc n) (pos d) x → x ≡ neg_ℤ (pos (half_up (suc n) d))
only_down n d (pos zero) p h = ap (λ k. neg_ℤ (pos k)) (only_down_by n zero d p h)
only_down n d (pos (suc k)) p h = let near = rw distance_across_down at h.near in absurd (omega arith)
only_down n d (negsuc k) p h = ap (λ k. neg_ℤ (pos k)) (only_down_by n (suc k) d p h)

pub only : (n d x : ℤ) → pos 0 <ℤ d → IsNearest n d x → x ≡ rnd n d
unfolding rnd
only (pos n) (pos d) x p h = only_up n d x (omega (arith, ints)) h
only (negsuc n) (pos d) x p h = rw add-one (only_down n d x (omega (arith, ints)) h)
only n (negsuc d) x p h = absurd (omega (arith, ints))

pub size : (n d : ℤ) → pos 0 <ℤ d → 2 * unsigned_abs (rnd n d) * unsigned_abs d ≤ 2 * unsigned_abs n + unsigned_abs d
unfolding rnd
size (pos n) (pos d) p = let parts = half_up-parts n d (omega (arith, ints)) in omega arith
size (negsuc n) (pos d) p = let parts = half_up-parts (suc n) d (omega (arith, ints)) in rw (add-one, mirrored) (omega arith)
size n (negsuc d) p = absurd (omega (arith, ints))
