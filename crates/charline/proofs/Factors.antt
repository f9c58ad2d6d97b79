-- A factor of both the number and the divisor changes no rounded quotient.
use Rattle.std.proofs.Common.{ℕ, zero, suc, ◌+◌, ◌*◌, ◌<◌, ◌≤◌, ◌≡◌, ap, sym, subst, refl, ◌∙◌, arith, add-one, ℤ, pos, negsuc, neg_ℤ, ◌+ℤ◌, ◌*ℤ◌, ◌≤ℤ◌}
use Rattle.std.proofs.Math.IntN.{zero-*ℤ, suc_ℤ-*ℤ, *ℤ_comm}
use Rattle.std.proofs.lemmas.Int.{ints}
use Rattle.std.proofs.lemmas.Nat.{mul-le}
use Rattle.fixed_num.specs.Rounding.{half_up, rnd}
use Rattle.fixed_num.proofs.Nearest.{half_up-parts, half_up-only}
use Rattle.charline.specs.Interior.{meeting_head, meeting_flow}
use Rattle.charline.specs.Equal.{CutsFactors, MeetHalfway, FlowByTwice}
use Rattle.fixed_num.proofs.Between.{rnd_up}

low_times : (k q n d : ℕ) → 2 * (q * d) ≤ 2 * n + d → 2 * (q * (k * d)) ≤ 2 * (k * n) + k * d
low_times k q n d h =
    let e : k * (2 * (q * d)) ≤ k * (2 * n + d) = mul-le k (2 * (q * d)) k (2 * n + d) (omega arith) h in omega arith

high_times : (k q n d : ℕ) → 0 < k → 2 * n < 2 * (q * d) + d → 2 * (k * n) < 2 * (q * (k * d)) + k * d
high_times k q n d p h =
    let e : k * (2 * n + 1) ≤ k * (2 * (q * d) + d) = mul-le k (2 * n + 1) k (2 * (q * d) + d) (omega arith) (omega arith) in omega arith

some_times : (k d : ℕ) → 0 < k → 0 < d → 0 < k * d
some_times k d p o = let e : 1 * 1 ≤ k * d = mul-le 1 1 k d p o in omega arith

half_up-cuts : (k n d : ℕ) → 0 < k → 0 < d → half_up (k * n) (k * d) ≡ half_up n d
half_up-cuts k n d p o =
    let parts = half_up-parts n d o in
    sym (half_up-only (k * n) (half_up n d) (k * d) (some_times k d p o) (low_times k (half_up n d) n d parts.0) (high_times k (half_up n d) n d p parts.1))

rnd_down : (n d : ℕ) → rnd (negsuc n) (pos d) ≡ neg_ℤ (pos (half_up (suc n) d))
unfolding rnd
rnd_down n d = rw add-one refl

product_down : (k n : ℕ) → (pos k *ℤ negsuc n) ≡ neg_ℤ (pos (k * suc n))
product_down k n = refl

mirrored : (m d : ℕ) → 0 < m → rnd (neg_ℤ (pos m)) (pos d) ≡ neg_ℤ (pos (half_up m d))
mirrored zero d p = absurd (omega arith)
mirrored (suc m) d p = rnd_down m d

cuts_up : (k n d : ℕ) → 0 < k → 0 < d → rnd (pos (k * n)) (pos (k * d)) ≡ rnd (pos n) (pos d)
cuts_up k n d p o = rw (rnd_up (k * n) (k * d), rnd_up n d) (ap pos (half_up-cuts k n d p o))

cuts_down : (k n d : ℕ) → 0 < k → 0 < d → rnd (neg_ℤ (pos (k * suc n))) (pos (k * d)) ≡ rnd (negsuc n) (pos d)
cuts_down k n d p o =
    rw (mirrored (k * suc n) (k * d) (some_times k (suc n) p (omega arith)), rnd_down n d)
    (ap (λ (x : ℕ). neg_ℤ (pos x)) (half_up-cuts k (suc n) d p o))

pub cuts_factors : CutsFactors
cuts_factors (pos k) (pos n) (pos d) p o = cuts_up k n d (omega (arith, ints)) (omega (arith, ints))
cuts_factors (pos k) (negsuc n) (pos d) p o = cuts_down k n d (omega (arith, ints)) (omega (arith, ints))
cuts_factors (pos k) n (negsuc d) p o = absurd (omega (arith, ints))
cuts_factors (negsuc k) n d p o = absurd (omega (arith, ints))

moved : (a b c x y : ℤ) → (a +ℤ b) ≡ c → ((a +ℤ x) +ℤ (b +ℤ y)) ≡ c +ℤ (x +ℤ y)
moved a b c x y e = omega (arith, ints)

sum_of_products : (k : ℕ) (x y : ℤ) → ((pos k *ℤ x) +ℤ (pos k *ℤ y)) ≡ pos k *ℤ (x +ℤ y)
sum_of_products zero x y = rw (zero-*ℤ x, zero-*ℤ y, zero-*ℤ (x +ℤ y)) refl
sum_of_products (suc k) x y =
    let more_x : pos (suc k) *ℤ x ≡ (pos k *ℤ x) +ℤ x = suc_ℤ-*ℤ (pos k) x in
    let more_y : pos (suc k) *ℤ y ≡ (pos k *ℤ y) +ℤ y = suc_ℤ-*ℤ (pos k) y in
    let more : pos (suc k) *ℤ (x +ℤ y) ≡ (pos k *ℤ (x +ℤ y)) +ℤ (x +ℤ y) = suc_ℤ-*ℤ (pos k) (x +ℤ y) in
    let less = sum_of_products k x y in
    rw (more_x, more_y, more) (moved (pos k *ℤ x) (pos k *ℤ y) (pos k *ℤ (x +ℤ y)) x y less)

common : (b x y : ℤ) → pos 1 ≤ℤ b → ((x *ℤ b) +ℤ (y *ℤ b)) ≡ b *ℤ (x +ℤ y)
common (pos b) x y p = rw (*ℤ_comm x (pos b), *ℤ_comm y (pos b)) (sum_of_products b x y)
common (negsuc b) x y p = absurd (omega (arith, ints))

twice : (b : ℤ) → pos 1 ≤ℤ b → (b +ℤ b) ≡ b *ℤ pos 2
twice b p = omega (arith, ints)

halves : (b x y : ℤ) → pos 1 ≤ℤ b → rnd ((x *ℤ b) +ℤ (y *ℤ b)) (b +ℤ b) ≡ rnd (x +ℤ y) (pos 2)
halves b x y p =
    let two : pos 1 ≤ℤ pos 2 = omega (arith, ints) in
    ap (λ (n : ℤ). rnd n (b +ℤ b)) (common b x y p) ∙ ap (λ (d : ℤ). rnd (b *ℤ (x +ℤ y)) d) (twice b p) ∙ cuts_factors b (x +ℤ y) (pos 2) p two

pub meet_halfway : MeetHalfway
unfolding meeting_head
meet_halfway plus minus e p = subst (λ (z : ℤ). rnd ((plus.c *ℤ z) +ℤ (minus.c *ℤ plus.b)) (plus.b +ℤ z) ≡ rnd (plus.c +ℤ minus.c) (pos 2)) e (halves plus.b plus.c minus.c p)

pub flow_by_twice : FlowByTwice
unfolding meeting_flow
flow_by_twice plus minus e =
    let d : (plus.b +ℤ minus.b) ≡ pos 2 *ℤ plus.b = omega (arith, ints) in rw d refl
