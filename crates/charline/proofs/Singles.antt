-- One impedance: its inverse, and the flow that a difference of heads drives through it.
use Rattle.std.proofs.Common.{refl, ℕ, ◌+◌, ◌*◌, ◌<◌, ◌≤◌, ◌≡◌, arith, ℤ, pos, ◌+ℤ◌, ◌*ℤ◌}
use Rattle.std.proofs.lemmas.Int.{ints}
use Rattle.std.proofs.lemmas.Nat.{le-div, div_below}
use Rattle.fixed_num.specs.Rounding.{half_up, rnd}
use Rattle.fixed_num.proofs.Between.{rnd_up}
use Rattle.charline.specs.Characteristics.{driven_flow}
use Rattle.charline.specs.Runs.{IsInverse}
use Rattle.charline.proofs.Factors.{cuts_factors}

least_inverse : (b : ℕ) → 100000 ≤ b → b ≤ 10000000000000 → 1000000000 ≤ half_up 10000000000000000000000 b
least_inverse b low high = le-div 1000000000 (2 * 10000000000000000000000 + b) (2 * b) (omega arith) (omega arith)

most_inverse : (b : ℕ) → 100000 ≤ b → half_up 10000000000000000000000 b < 100000000000000001
most_inverse b low = div_below (2 * 10000000000000000000000 + b) (2 * b) 100000000000000001 (omega arith) (omega arith)

pub inverse_of : (b : ℕ) → 100000 ≤ b → b ≤ 10000000000000 → IsInverse b (rnd (pos 10000000000000000000000) (pos b))
inverse_of b low high =
    let e = rnd_up 10000000000000000000000 b in
    let l = least_inverse b low high in
    let m = most_inverse b low in
    record { value = refl; low = rw e (omega (arith, ints)); high = rw e (omega (arith, ints)) }

twofold : (x : ℤ) → (x +ℤ x) *ℤ pos 1000000000 ≡ pos 2 *ℤ (x *ℤ pos 1000000000)
twofold x = omega (arith, ints)

-- twice the difference drives through twice the impedance what it drives through one
pub driven_twofold : (x : ℤ) (b : ℕ) → 0 < b → driven_flow (x +ℤ x) (pos (2 * b)) ≡ driven_flow x (pos b)
unfolding driven_flow
driven_twofold x b some =
    rw (twofold x) (cuts_factors (pos 2) (x *ℤ pos 1000000000) (pos b) (omega (arith, ints)) (omega (arith, ints)))
