-- The sizes of rounded quotients, and numbers cut to one more than their most.
use Rattle.std.proofs.Common.{◌≡◌, ℕ, suc, ◌+◌, ◌*◌, ◌<◌, ◌≤◌, ◌&&◌, Bool, true, false, ℤ, pos, ◌*ℤ◌, ◌≤ℤ◌, ◌+ℤ◌, int_le, unsigned_abs, ⊎_elim, FitsSigned, refl, arith, ap, ◌∙◌, sym}
use Rattle.std.specs.Int.{w128}
use Rattle.std.proofs.lemmas.Int.{ints, unsigned_abs-mul, fits_signed_mul}
use Rattle.std.proofs.lemmas.Bool.{cases_lt}
use Rattle.std.proofs.lemmas.Bool.Decides.{nat_tests}
use Rattle.std.proofs.lemmas.Nat.{mul-le}
use Rattle.case_model.specs.Formulas.{cut}
use Rattle.case_model.specs.Division.{are_accepted}

-- a part of a whole is no larger than the whole
part_below : (x n d i : ℕ) → 0 < n → i ≤ n → 2 * x * n ≤ 2 * (d * i) + n → x ≤ d
part_below x n d i p k m =
    let s : d * i ≤ d * n = mul-le d i d n (omega arith) k in
    ⊎_elim (λ over. let f : suc d * n ≤ x * n = mul-le (suc d) n x n over (omega arith) in absurd (omega arith)) (λ within. within) (cases_lt d x)

pub share_below : (difference place reaches x : ℤ) → unsigned_abs place ≤ unsigned_abs reaches → pos 1 ≤ℤ reaches → 2 * unsigned_abs x * unsigned_abs reaches ≤ 2 * unsigned_abs (difference *ℤ place) + unsigned_abs reaches → unsigned_abs x ≤ unsigned_abs difference
share_below difference place reaches x k p m =
    let e = unsigned_abs-mul difference place in
    part_below (unsigned_abs x) (unsigned_abs reaches) (unsigned_abs difference) (unsigned_abs place) (omega (arith, ints)) k (rw (← e) m)

pub share_fits : (difference place : ℤ) → unsigned_abs difference ≤ 200000000000 → unsigned_abs place ≤ 4294967295 → FitsSigned w128 (difference *ℤ place)
share_fits difference place h k = fits_signed_mul w128 difference place 200000000000 4294967295 h k (omega arith)

-- a number is within its limits exactly where the cut one is
kept : (most x : ℤ) → int_le x most ≡ true → cut most x ≡ x
kept most x h = rw h refl

over : (most x : ℤ) → int_le x most ≡ false → cut most x ≡ most +ℤ pos 1
over most x h = rw h refl

pub and_false : (b : Bool) → (b && false) ≡ false
and_false true = refl
and_false false = refl

cut_limits : (low most : ℕ) (x : ℤ) → (t : Bool) → int_le x (pos most) ≡ t → (int_le (pos low) (cut (pos most) x) && int_le (cut (pos most) x) (pos most)) ≡ (int_le (pos low) x && int_le x (pos most))
cut_limits low most x true h = rw (kept (pos most) x h) refl
cut_limits low most x false h =
    let past : int_le (pos (most + 1)) (pos most) ≡ false = grind (arith, nat_tests) in
    rw (over (pos most) x h, past, h, and_false, and_false) refl

four : (a b c d : Bool) → (a && b && c && d) ≡ ((a && b) && (c && d))
four true true c d = refl
four true false c d = refl
four false b c d = refl

pub accepted_cut : (b r : ℤ) → are_accepted (cut (pos 10_000_000_000_000) b) (cut (pos 100_000_000_000_000_000_000) r) ≡ are_accepted b r
unfolding are_accepted
accepted_cut b r =
    let x = cut (pos 10_000_000_000_000) b in
    let y = cut (pos 100_000_000_000_000_000_000) r in
    let e = cut_limits 100_000 10_000_000_000_000 b (int_le b (pos 10_000_000_000_000)) refl in
    let f = cut_limits 0 100_000_000_000_000_000_000 r (int_le r (pos 100_000_000_000_000_000_000)) refl in
    four (int_le (pos 100_000) x) (int_le x (pos 10_000_000_000_000)) (int_le (pos 0) y) (int_le y (pos 100_000_000_000_000_000_000))
    ∙ ap (λ (t : Bool). t && (int_le (pos 0) y && int_le y (pos 100_000_000_000_000_000_000))) e
    ∙ ap (λ (t : Bool). (int_le (pos 100_000) b && int_le b (pos 10_000_000_000_000)) && t) f
    ∙ sym (four (int_le (pos 100_000) b) (int_le b (pos 10_000_000_000_000)) (int_le (pos 0) r) (int_le r (pos 100_000_000_000_000_000_000)))

pub accepted_as_cut : (x y b r : ℤ) → x ≡ cut (pos 10_000_000_000_000) b → y ≡ cut (pos 100_000_000_000_000_000_000) r → are_accepted x y ≡ are_accepted b r
accepted_as_cut x y b r e f = rw (e, f) (accepted_cut b r)
