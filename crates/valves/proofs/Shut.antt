-- A shut valve: nothing goes through it.
use Rattle.std.proofs.Common.{◌≡◌, ◌∙◌, ◌<◌, ℤ, pos, neg_ℤ, ◌+ℤ◌, ◌-ℤ◌, ◌*ℤ◌, unsigned_abs, int_lt, Bool, true, false, if◌then◌else◌, ap, refl, arith}
use Rattle.std.proofs.lemmas.Int.{ints}
use Rattle.fixed_num.specs.Rounding.{rnd}
use Rattle.fixed_num.specs.Roots.{nat_root, root}
use Rattle.fixed_num.proofs.Between.{half_up-none}
use Rattle.valves.specs.Orifices.{along, half_flow, line_flow, open_flow, square_flow, valve_flow}

-- nothing has no share
none : (d : ℤ) → 0 < unsigned_abs d → rnd (pos 0) d ≡ pos 0
unfolding rnd
none d h = ap pos (half_up-none (unsigned_abs d) h)

times_none : (x : ℤ) → x *ℤ pos 0 ≡ pos 0
times_none x = omega (arith, ints)

no_root : root (pos 0) ≡ pos 0
unfolding root nat_root
no_root = refl

no_sign : (a b : Bool) → (if a then pos 0 else (if b then neg_ℤ (pos 0) else pos 0)) ≡ pos 0
no_sign true b = refl
no_sign false true = refl
no_sign false false = refl

open_none : (q0 : ℤ) → open_flow q0 (pos 0) ≡ pos 0
unfolding open_flow
open_none q0 = ap (λ (x : ℤ). rnd x (pos 1_000_000)) (times_none q0) ∙ none (pos 1_000_000) (omega arith)

square_none : (h0 : ℤ) → 0 < unsigned_abs h0 → square_flow (pos 0) h0 ≡ pos 0
unfolding square_flow
square_none h0 h = ap (λ (x : ℤ). rnd x h0) (times_none (pos 0)) ∙ none h0 h

half_none : (b h0 : ℤ) → 0 < unsigned_abs h0 → half_flow b (pos 0) h0 ≡ pos 0
unfolding half_flow
half_none b h0 h =
    let d : 0 < unsigned_abs (pos 2_000_000_000 *ℤ h0) = omega (arith, ints) in
    ap (λ (x : ℤ). rnd (b *ℤ x) (pos 2_000_000_000 *ℤ h0)) (times_none (pos 0))
    ∙ ap (λ (x : ℤ). rnd x (pos 2_000_000_000 *ℤ h0)) (times_none b)
    ∙ none (pos 2_000_000_000 *ℤ h0) d

line_none : (e : ℤ) → line_flow (pos 0) (pos 0) e ≡ pos 0
unfolding line_flow
line_none e =
    let s : (pos 0 *ℤ pos 0) +ℤ (pos 0 *ℤ pos (unsigned_abs e)) ≡ pos 0 = omega (arith, ints) in
    ap (λ (x : ℤ). along e (root x -ℤ pos 0)) s
    ∙ ap (λ (x : ℤ). along e (x -ℤ pos 0)) no_root
    ∙ no_sign (int_lt (pos 0) e) (int_lt e (pos 0))

-- whatever the difference of heads
pub shut : (b q0 h0 e : ℤ) → 0 < unsigned_abs h0 → valve_flow b q0 h0 (pos 0) e ≡ pos 0
shut b q0 h0 e h =
    ap (λ (w : ℤ). line_flow (half_flow b w h0) (square_flow w h0) e) (open_none q0)
    ∙ ap (λ (x : ℤ). line_flow x (square_flow (pos 0) h0) e) (half_none b h0 h)
    ∙ ap (λ (x : ℤ). line_flow (pos 0) x e) (square_none h0 h)
    ∙ line_none e
