-- Between two equal ends nothing changes.
use Rattle.std.proofs.Common.{◌≡◌, ℕ, ◌+◌, ◌*◌, ◌<◌, ℤ, pos, ◌+ℤ◌, ◌-ℤ◌, ◌*ℤ◌, ap, ◌∙◌, arith}
use Rattle.std.proofs.Math.IntN.{zero-*ℤ}
use Rattle.std.proofs.lemmas.Int.{ints}
use Rattle.fixed_num.specs.Rounding.{half_up, rnd}
use Rattle.fixed_num.proofs.Between.{half_up-none}

nothing : (d : ℕ) → 0 < d → rnd (pos 0) (pos d) ≡ pos 0
unfolding rnd
nothing d h = ap pos (half_up-none d h)

no_share : (difference place : ℤ) (reaches : ℕ) → difference ≡ pos 0 → 0 < reaches → rnd (difference *ℤ place) (pos reaches) ≡ pos 0
no_share difference place reaches e some =
    ap (λ (n : ℤ). rnd (n *ℤ place) (pos reaches)) e ∙ ap (λ (n : ℤ). rnd n (pos reaches)) (zero-*ℤ place) ∙ nothing reaches some

pub same_ends : (first last : ℤ) (place reaches : ℕ) → first ≡ last → 0 < reaches → first ≡ first +ℤ rnd ((last -ℤ first) *ℤ pos place) (pos reaches)
same_ends first last place reaches e some =
    let z : last -ℤ first ≡ pos 0 = omega (arith, ints) in
    let s = no_share (last -ℤ first) (pos place) reaches z some in
    omega (arith, ints, s)
