-- The part of a difference that a place has of all reaches, and sums over ends.
use Rattle.std.proofs.Common.{◌≡◌, ℕ, zero, suc, ◌+◌, ◌*◌, ◌<◌, ◌≤◌, List, [], ◌∷◌, length, take, get_or, ℤ, pos, negsuc, neg_ℤ, ◌+ℤ◌, ◌*ℤ◌, ◌≤ℤ◌, ◌<ℤ◌, unsigned_abs, ap, ◌∙◌, add-one, arith}
use Rattle.std.proofs.lemmas.Int.{ints}
use Rattle.std.proofs.lemmas.Nat.{mul-le, div_below}
use Rattle.fixed_num.specs.Rounding.{half_up, rnd}
use Rattle.case_model.specs.declared.cases.Case.{Case}
use Rattle.case_model.specs.declared.meshes.End.{End}
use Rattle.case_model.specs.Parts.{pipe_at}
use Rattle.scheme.specs.Ends.{along}
use Rattle.scheme.specs.Starts.{start_inflow}
use Rattle.fixed_num.proofs.Between.{rnd_up, rnd_down, times_up, times_down}

pub part_below : (size place reaches : ℕ) → 0 < reaches → place ≤ reaches → half_up (size * place) reaches ≤ size
part_below size place reaches some h =
    let s : size * place ≤ size * reaches = mul-le size place size reaches (omega arith) h in
    let d : half_up (size * place) reaches < suc size = div_below (2 * (size * place) + reaches) (2 * reaches) (suc size) (omega arith) (omega arith) in
    omega arith

-- the rounded share, by the sign of the difference
pub share_up : (difference : ℤ) (place reaches : ℕ) → pos 0 ≤ℤ difference → rnd (difference *ℤ pos place) (pos reaches) ≡ pos (half_up (unsigned_abs difference * place) reaches)
share_up (pos m) place reaches h = ap (λ (n : ℤ). rnd n (pos reaches)) (times_up m place) ∙ rnd_up (m * place) reaches
share_up (negsuc m) place reaches h = absurd (omega (arith, ints))

pub share_down : (difference : ℤ) (place reaches : ℕ) → difference <ℤ pos 0 → 0 < reaches → rnd (difference *ℤ pos place) (pos reaches) ≡ neg_ℤ (pos (half_up (unsigned_abs difference * place) reaches))
share_down (pos m) place reaches h some = absurd (omega (arith, ints))
share_down (negsuc m) place reaches h some = ap (λ (n : ℤ). rnd n (pos reaches)) (times_down m place) ∙ rnd_down (suc m * place) reaches some

inflow-take_suc : (case : Case) (ends : List End) (i : ℕ) (d : End) → i < length ends → start_inflow case (take (suc i) ends) ≡ start_inflow case (take i ends) +ℤ along (get_or ends i d) (pipe_at case (get_or ends i d).pipe).flow
inflow-take_suc case [] i d h = absurd (omega arith)
inflow-take_suc case (e ∷ ends) zero d h = omega (arith, ints)
inflow-take_suc case (e ∷ ends) (suc i) d h = omega (arith, ints, inflow-take_suc case ends i d (omega arith))

pub inflow-more : (case : Case) (ends : List End) (i : ℕ) (d : End) → i < length ends → start_inflow case (take (i + 1) ends) ≡ start_inflow case (take i ends) +ℤ along (get_or ends i d) (pipe_at case (get_or ends i d).pipe).flow
inflow-more case ends i d h = rw add-one (inflow-take_suc case ends i d h)
