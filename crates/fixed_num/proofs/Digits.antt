use Rattle.std.proofs.Common.{ℕ, ◌-◌, ◌≤◌, ◌≡◌, List, [], ◌∷◌, ◌++◌, ap, sym, ◌∙◌, refl, arith, length}
use Rattle.std.proofs.lemmas.List.Sums.{fold-append}
use Rattle.std.proofs.lemmas.Bool.{le-ltb}
use Rattle.std.specs.List.{fold}
use Rattle.fixed_num.specs.Decimal.{push_digit, capped, scaled, sized}

pub fold_append : (n : ℕ) (xs ys : List ℕ) → fold push_digit n (xs ++ ys) ≡ fold push_digit (fold push_digit n xs) ys
fold_append n xs ys = fold-append push_digit n xs ys

push_capped : (n b : ℕ) → capped (push_digit (capped n) b) ≡ capped (push_digit n b)
push_capped n b = omega arith

-- a cap on the way changes nothing under the cap at the end
pub fold_capped : (n : ℕ) (xs : List ℕ) → capped (fold push_digit (capped n) xs) ≡ capped (fold push_digit n xs)
fold_capped n [] = omega arith
fold_capped n (x ∷ xs) =
    sym (fold_capped (push_digit (capped n) x) xs) ∙ ap (λ m. capped (fold push_digit m xs)) (push_capped n x) ∙ fold_capped (push_digit n x) xs

-- nor does it where zeros follow
pub scaled_capped : (places n : ℕ) → scaled places (capped n) ≡ scaled places n
scaled_capped places n = grind arith

pub sized_by_parts : (places whole_number number : ℕ) (whole fraction : List ℕ) → length fraction ≤ places → whole_number ≡ capped (fold push_digit 0 whole) → number ≡ capped (fold push_digit whole_number fraction) → scaled (places - length fraction) number ≡ sized places whole fraction
sized_by_parts places whole_number number whole fraction within first second =
    rw (le-ltb places (length fraction) within, second, first, fold_capped (fold push_digit 0 whole) fraction, scaled_capped, fold_append 0 whole fraction) refl
