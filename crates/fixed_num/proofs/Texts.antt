use Rattle.std.proofs.Common.{ℕ, zero, suc, ◌+◌, ◌/◌, ◌%◌, ◌^◌, ◌<◌, ◌≤◌, ◌≡◌, List, [], ◌∷◌, ◌++◌, length, take, drop, ap, ◌∙◌, refl, sym, arith, add-one, append_assoc, length-append}
use Rattle.std.proofs.Math.Seq.{take-append_seam, drop-append-add}
use Rattle.std.proofs.lemmas.List.{drop-drop, length-take-le}
use Rattle.std.proofs.Math.Nat.{pow-suc, div-div-eq-div-mul}
use Rattle.std.proofs.lemmas.Fmt.{decimal_by_steps_wide}
use Rattle.std.specs.Fmt.{decimal}
use Rattle.std.specs.List.{fold}
use Rattle.fixed_num.specs.Decimal.{push_digit}
use Rattle.fixed_num.specs.Written.{last_digits, placed}
use Rattle.fixed_num.proofs.Digits.{fold_append}
use Rattle.fixed_num.proofs.Put.{div_more}

pub length-last_digits : (k n : ℕ) → length (last_digits k n) ≡ k
length-last_digits zero n = refl
length-last_digits (suc k) n = ap suc (length-last_digits k n)

div_first : (n k : ℕ) → n / 10 ^ (suc k) ≡ n / 10 / 10 ^ k
div_first n k = sym (div-div-eq-div-mul n 10 (10 ^ k) ∙ ap (λ m. n / m) (rw pow-suc (omega arith)))

-- the last digit stands at the end
pub digits_end : (k n : ℕ) → last_digits (suc k) n ≡ last_digits k (n / 10) ++ (48 + n % 10) ∷ []
digits_end zero n = ap (λ m. (48 + m % 10) ∷ []) (omega arith)
digits_end (suc k) n = ap (λ m. (48 + m % 10) ∷ last_digits (suc k) n) (div_first n k) ∙ ap (λ l. (48 + n / 10 / 10 ^ k % 10) ∷ l) (digits_end k n)

pub all_digits : (n : ℕ) → n < 10 ^ 64 → last_digits (length (decimal n)) n ≡ decimal n
all_digits n h = decimal_by_steps_wide (λ m ds. last_digits (length ds) m ≡ ds)
    (λ m small. ap (λ d. (48 + d) ∷ []) (omega arith))
    (λ m ds big e. rw (length-append ds ((48 + m % 10) ∷ []), add-one (length ds)) (digits_end (length ds) m ∙ ap (λ l. l ++ (48 + m % 10) ∷ []) e)) n h

-- digits after the number that stands before them
pub fold_last : (k n : ℕ) → fold push_digit (n / 10 ^ k) (last_digits k n) ≡ n
fold_last zero n = omega arith
fold_last (suc k) n = ap (λ m. fold push_digit m (last_digits k n)) (let e : n / 10 ^ (suc k) ≡ n / 10 ^ k / 10 = sym (let h : n / 10 ^ k / 10 ≡ n / 10 ^ (k + 1) = div_more n k in rw (add-one k) at h) in omega arith) ∙ fold_last k n

pub fold_decimal : (n : ℕ) → n < 10 ^ 64 → fold push_digit 0 (decimal n) ≡ n
fold_decimal n h = decimal_by_steps_wide (λ m ds. fold push_digit 0 ds ≡ m) (λ m small. omega arith)
    (λ m ds big e. fold_append 0 ds ((48 + m % 10) ∷ []) ∙ ap (λ x. push_digit x (48 + m % 10)) e ∙ omega arith) n h

over : (t b rest : List ℕ) → take (length t) (t ++ rest) ++ b ++ drop (length t + length b) (t ++ rest) ≡ t ++ b ++ drop (length b) rest
over t b rest = rw (take-append_seam t rest, drop-append-add t rest (length b)) refl

-- a text put behind another
pub placed_twice : (old a b : List ℕ) (at : ℕ) → at ≤ length old → placed (at + length a) b (placed at a old) ≡ placed at (a ++ b) old
placed_twice old a b at h =
    let e : length (take at old ++ a) ≡ at + length a = length-append (take at old) a ∙ ap (λ n. n + length a) (length-take-le at old h) in
    rw (← e, over (take at old ++ a) b (drop (length (take at old ++ a)) old), e, drop-drop (length b) (at + length a) old, length-append a b, append_assoc (take at old) a b) (ap (λ n. take at old ++ (a ++ b) ++ drop n old) (omega arith))
