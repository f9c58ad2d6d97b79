-- A loss of head by friction in 64 bits: near enough to round it.
use Rattle.std.proofs.Common.{ℕ, zero, suc, ◌+◌, ◌-◌, ◌*◌, ◌/◌, ◌%◌, ◌<◌, ◌≤◌, ◌≡◌, ◌∙◌, ap, subst, sym, refl, inl, inr, Option, Some, None, IfSome, arith}
use Rattle.std.proofs.Common.{ℤ, pos, negsuc, neg_ℤ, ◌+ℤ◌, ◌*ℤ◌, unsigned_abs}
use Rattle.std.specs.Int.{int_shr}
use Rattle.std.proofs.lemmas.Bool.{cases_lt}
use Rattle.std.proofs.lemmas.Int.{ints}
use Rattle.std.proofs.lemmas.Nat.{mul-le}
use Rattle.fixed_num.specs.Reciprocals.{upper}
use Rattle.fixed_num.specs.Rounding.{half_up, rnd}
use Rattle.fixed_num.proofs.Between.{rnd_up, rnd_down, times_down}
use Rattle.fixed_num.proofs.Nearest.{half_up-parts}
use Rattle.charline.specs.Characteristics.{friction_head}
use Rattle.charline.specs.Runs.{IsScaled, IsFarFromTie}

-- the square of a flow by the scaled friction, and the loss at a unit of flow by the flow, in the
-- same unit but for 71 parts; the numerals are 5^12, 2^68 and 71 * 2^64
record IsNear (product loss : ℕ) : Type 0 where
  below : product * 244140625 < loss * 295147905179352825856 + 1309718829233378164736 * 244140625
  above : loss * 295147905179352825856 < product * 244140625 + 1309718829233378164736 * 244140625

near_below : (q r s slope : ℕ) → q < 2147483648 → s * 59604644775390625 ≤ r * 72057594037927936 → 2 * (r * q) < 2 * (slope * 1000000000000) + 1000000000000
    → q * q * s * 244140625 < slope * q * 295147905179352825856 + 1309718829233378164736 * 244140625
near_below q r s slope small h k =
    let e : q * q * (s * 59604644775390625) ≤ q * q * (r * 72057594037927936) = mul-le (q * q) (s * 59604644775390625) (q * q) (r * 72057594037927936) (omega arith) h in
    let f : q * (2 * (r * q)) ≤ q * (2 * (slope * 1000000000000) + 1000000000000) = mul-le q (2 * (r * q)) q (2 * (slope * 1000000000000) + 1000000000000) (omega arith) (omega arith) in
    omega arith

near_above : (q r s slope : ℕ) → q < 2147483648 → r * 72057594037927936 < (s + 2) * 59604644775390625 → 2 * (slope * 1000000000000) ≤ 2 * (r * q) + 1000000000000
    → slope * q * 295147905179352825856 < q * q * s * 244140625 + 1309718829233378164736 * 244140625
near_above q r s slope small h k =
    let e : q * q * (r * 72057594037927936) ≤ q * q * ((s + 2) * 59604644775390625) = mul-le (q * q) (r * 72057594037927936) (q * q) ((s + 2) * 59604644775390625) (omega arith) (omega arith) in
    let f : q * (2 * (slope * 1000000000000)) ≤ q * (2 * (r * q) + 1000000000000) = mul-le q (2 * (slope * 1000000000000)) q (2 * (r * q) + 1000000000000) (omega arith) k in
    let g : q * q ≤ 2147483648 * q = mul-le q q 2147483648 q (omega arith) (omega arith) in
    omega arith

near : (q r s : ℕ) → q < 2147483648 → IsScaled r s → IsNear (q * q * s) (half_up (r * q) 1000000000000 * q)
near q r s small h =
    let parts = half_up-parts (r * q) 1000000000000 (omega arith) in
    record {
      below = near_below q r s (half_up (r * q) 1000000000000) small h.below parts.1;
      above = near_above q r s (half_up (r * q) 1000000000000) small h.above parts.0;
    }

rounded_near : (product loss : ℕ) → IsNear product loss → 256 ≤ (product / 18446744073709551616 + 32896) % 65536 → (product / 18446744073709551616 + 32896) / 65536 ≡ half_up loss 1000000000000
rounded_near product loss h far =
    let low = h.below in
    let high = h.above in
    omega arith

loss_is : (q r s : ℕ) → q < 2147483648 → IsScaled r s → 256 ≤ (q * q * s / 18446744073709551616 + 32896) % 65536
    → (q * q * s / 18446744073709551616 + 32896) / 65536 ≡ half_up (half_up (r * q) 1000000000000 * q) 1000000000000
loss_is q r s small h far = rounded_near (q * q * s) (half_up (r * q) 1000000000000 * q) (near q r s small h) far

-- ---- below zero, where the upper half of a product is rounded down

-- the product is over so many units
record IsOver (product unit : ℕ) : Type 0 where
  above : unit * 18446744073709551616 < product
  within : product ≤ unit * 18446744073709551616 + 18446744073709551616

small_down : (product loss unit : ℕ) → IsNear product loss → IsOver product unit → unit < 32896 → 256 ≤ 32895 - unit → half_up loss 1000000000000 ≡ 0
small_down product loss unit h o k far =
    let low = h.below in
    let high = h.above in
    let least = o.above in
    let most = o.within in
    omega arith

rounded_down : (product loss unit : ℕ) → IsNear product loss → IsOver product unit → 32896 ≤ unit → (unit - 32896) % 65536 < 65280
    → half_up loss 1000000000000 ≡ (unit - 32896) / 65536 + 1
rounded_down product loss unit h o k far =
    let low = h.below in
    let high = h.above in
    let least = o.above in
    let most = o.within in
    omega arith

-- ---- signs

sign_up : (r n : ℕ) → friction_head (pos r) (pos n) ≡ pos (half_up (half_up (r * n) 1000000000000 * n) 1000000000000)
unfolding friction_head rnd
sign_up r n = refl

sign_down : (r n : ℕ) → friction_head (pos r) (negsuc n) ≡ neg_ℤ (pos (half_up (half_up (r * suc n) 1000000000000 * suc n) 1000000000000))
unfolding friction_head
sign_down r n =
    rw (rnd_up (r * suc n) 1000000000000, rnd_down (half_up (r * suc n) 1000000000000 * suc n) 1000000000000 (omega arith)) refl

told_up : (r s n : ℕ) (near loss : ℤ) → n < 2147483648 → IsScaled r s → near ≡ upper (pos n *ℤ pos n) (pos s) +ℤ pos 32896 → IsFarFromTie near → loss ≡ int_shr near 16
    → loss ≡ friction_head (pos r) (pos n)
unfolding upper
told_up r s n near loss small h e far is =
    let k : near ≡ pos (n * n * s / 18446744073709551616 + 32896) = e in
    let up = far.up (n * n * s / 18446744073709551616 + 32896) k in
    let t : int_shr near 16 ≡ pos ((n * n * s / 18446744073709551616 + 32896) / 65536) = ap (λ (x : ℤ). int_shr x 16) k in
    is ∙ t ∙ ap pos (loss_is n r s small h up) ∙ sym (sign_up r n)

no_loss : (loss : ℕ) → IsNear 0 loss → half_up loss 1000000000000 ≡ 0
no_loss loss h = let high = h.above in omega arith

over : (k : ℕ) → IsOver (suc k) (k / 18446744073709551616)
over k = record { above = omega arith; within = omega arith }

down_told : (product size : ℕ) (near loss : ℤ) → IsNear product size → near ≡ int_shr (neg_ℤ (pos product)) 64 +ℤ pos 32896 → IsFarFromTie near → loss ≡ int_shr near 16
    → loss ≡ neg_ℤ (pos (half_up size 1000000000000))
down_told zero size near loss h e far is =
    let none : half_up size 1000000000000 ≡ 0 = no_loss size h in
    rw none (is ∙ ap (λ (x : ℤ). int_shr x 16) e)
down_told (suc k) size near loss h e far is = elim (cases_lt (k / 18446744073709551616) 32896) [
  | inl p ↦
      let unit : ℕ = k / 18446744073709551616 in
      let at : near ≡ pos (32895 - unit) = e ∙ (omega (arith, ints)) in
      let up : 256 ≤ (32895 - unit) % 65536 = far.up (32895 - unit) at in
      let none : half_up size 1000000000000 ≡ 0 = small_down (suc k) size unit h (over k) p (omega arith) in
      let zero_is : (32895 - unit) / 65536 ≡ 0 = omega arith in
      rw none (is ∙ ap (λ (x : ℤ). int_shr x 16) at ∙ ap pos zero_is)
  | inr p ↦
      let unit : ℕ = k / 18446744073709551616 in
      let at : near ≡ negsuc (unit - 32896) = e ∙ (omega (arith, ints)) in
      let down : (unit - 32896) % 65536 < 65280 = far.down (unit - 32896) at in
      let more : half_up size 1000000000000 ≡ (unit - 32896) / 65536 + 1 = rounded_down (suc k) size unit h (over k) p down in
      is ∙ ap (λ (x : ℤ). int_shr x 16) at ∙ (omega (arith, ints))
]

square : (n : ℕ) → suc n * suc n ≡ suc (n + n * suc n)
square n = omega arith

product_down : (n s : ℕ) → ((negsuc n *ℤ pos (suc n)) *ℤ pos s) ≡ neg_ℤ (pos (suc n * suc n * s))
product_down n s =
    ap (λ (x : ℤ). x *ℤ pos s) (times_down n (suc n)) ∙ ap (λ (m : ℕ). neg_ℤ (pos m) *ℤ pos s) (square n) ∙ times_down (n + n * suc n) s
    ∙ ap (λ (m : ℕ). neg_ℤ (pos (m * s))) (sym (square n))

told_down : (r s n : ℕ) (near loss : ℤ) → suc n < 2147483648 → IsScaled r s → near ≡ upper (negsuc n *ℤ pos (suc n)) (pos s) +ℤ pos 32896 → IsFarFromTie near
    → loss ≡ int_shr near 16 → loss ≡ friction_head (pos r) (negsuc n)
unfolding upper
told_down r s n at loss small h e far is =
    down_told (suc n * suc n * s) (half_up (r * suc n) 1000000000000 * suc n) at loss (near (suc n) r s small h)
    (e ∙ ap (λ (x : ℤ). int_shr x 64 +ℤ pos 32896) (product_down n s)) far is
    ∙ sym (sign_down r n)

pub loss_told : (r s size : ℕ) (q near loss : ℤ) → size ≡ unsigned_abs q → size < 2147483648 → IsScaled r s → near ≡ upper (q *ℤ pos size) (pos s) +ℤ pos 32896 → IsFarFromTie near
    → loss ≡ int_shr near 16 → loss ≡ friction_head (pos r) q
loss_told r s size (pos n) near loss z small h e far is =
    told_up r s n near loss (omega arith) h (subst (λ (x : ℕ). near ≡ upper (pos n *ℤ pos x) (pos s) +ℤ pos 32896) z e) far is
loss_told r s size (negsuc n) near loss z small h e far is =
    told_down r s n near loss (omega arith) h (subst (λ (x : ℕ). near ≡ upper (negsuc n *ℤ pos x) (pos s) +ℤ pos 32896) z e) far is

pub losses_told : (result : Option ℤ) (r s size : ℕ) (q near : ℤ) → size ≡ unsigned_abs q → size < 2147483648 → IsScaled r s → near ≡ upper (q *ℤ pos size) (pos s) +ℤ pos 32896
    → IfSome result (λ loss. IsFarFromTie near) → IfSome result (λ loss. loss ≡ int_shr near 16) → IfSome result (λ loss. loss ≡ friction_head (pos r) q)
losses_told None r s size q near z small h e far is = tt
losses_told (Some loss) r s size q near z small h e far is = loss_told r s size q near loss z small h e far is
