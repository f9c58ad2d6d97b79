use Rattle.std.proofs.Common.{ℕ, zero, suc, ◌+◌, ◌-◌, ◌*◌, ◌/◌, ◌%◌, ◌^◌, ◌<◌, ◌≤◌, ◌≡◌, true, false, ◌==◌, nat_lt, List, [], ◌∷◌, ◌++◌, length, take, ap, subst, ◌∙◌, refl, arith, ℤ, pos, negsuc, neg_ℤ, unsigned_abs, Ok}
use Rattle.std.proofs.lemmas.List.{append-nil}
use Rattle.std.proofs.Math.Seq.{take-append_seam, drop-append-add}
use Rattle.std.proofs.lemmas.Bool.{le-ltb, lt-ltb}
use Rattle.fixed_num.proofs.Put.{length_some}
use Rattle.std.proofs.lemmas.List.Folds.{list_all-append}
use Rattle.std.proofs.lemmas.Fmt.{decimal_by_steps_wide}
use Rattle.std.specs.Fmt.{decimal}
use Rattle.std.specs.List.{fold, list_all, position_or_len, before_first, after_first}
use Rattle.std.specs.Char.{is_ascii_digit}
use Rattle.fixed_num.specs.Decimal.{push_digit, is_point, are_digits, digits_number, sized, size_of, number_of}
use Rattle.fixed_num.specs.Written.{last_digits, written, fraction_text}
use Rattle.fixed_num.proofs.Digits.{fold_append}
use Rattle.fixed_num.proofs.Texts.{length-last_digits, fold_last, fold_decimal}

is_digit_of : (m : ℕ) → is_ascii_digit (48 + m % 10) ≡ true
is_digit_of m = grind arith

no_point : (x : ℕ) → is_ascii_digit x ≡ true → is_point x ≡ false
no_point x h = grind arith

pub no_sign : (x : ℕ) → is_ascii_digit x ≡ true → ((x == 45) ≡ false) × ((x == 43) ≡ false)
no_sign x h = grind arith

all_last : (k n : ℕ) → list_all is_ascii_digit (last_digits k n) ≡ true
all_last zero n = refl
all_last (suc k) n = rw (is_digit_of (n / 10 ^ k), all_last k n) refl

all_decimal : (n : ℕ) → n < 10 ^ 64 → list_all is_ascii_digit (decimal n) ≡ true
all_decimal n h = decimal_by_steps_wide (λ m ds. list_all is_ascii_digit ds ≡ true) (λ m small. grind arith)
    (λ m ds big e. rw (list_all-append is_ascii_digit ds ((48 + m % 10) ∷ []), e, is_digit_of m) refl) n h

some_decimal : (n : ℕ) → n < 10 ^ 64 → nat_lt 0 (length (decimal n)) ≡ true
some_decimal n h = lt-ltb 0 (length (decimal n)) (length_some n h)

point_after : (xs ys : List ℕ) → list_all is_ascii_digit xs ≡ true → position_or_len is_point (xs ++ 46 ∷ ys) ≡ length xs
point_after [] ys h = refl
point_after (x ∷ xs) ys h = grind (arith, no_point x, point_after xs ys)

digits_of_all : (xs : List ℕ) → list_all is_ascii_digit xs ≡ true → 1 ≤ length xs → are_digits xs ≡ true
digits_of_all xs d s = rw (lt-ltb 0 (length xs) s, d) refl

sized_small : (whole fraction : List ℕ) (n : ℕ) → digits_number (whole ++ fraction) ≡ n → n ≤ 10 ^ 18 → sized (length fraction) whole fraction ≡ Ok n
sized_small whole fraction n e h =
    let z : length fraction - length fraction ≡ 0 = omega arith in
    let o : n * 1 ≡ n = omega arith in
    rw (le-ltb (length fraction) (length fraction) (omega arith), z, e, o, le-ltb (10 ^ 18) n h) refl

size_whole : (xs : List ℕ) (n : ℕ) → are_digits xs ≡ true → digits_number xs ≡ n → n ≤ 10 ^ 18 → size_of 0 xs ≡ Ok n
unfolding size_of
size_whole xs n d e h = rw d (sized_small xs [] n (ap digits_number (append-nil xs) ∙ e) h)

pub before_point : (xs ys : List ℕ) → list_all is_ascii_digit xs ≡ true → before_first is_point (xs ++ 46 ∷ ys) ≡ xs
before_point xs ys h = rw (point_after xs ys h) (take-append_seam xs (46 ∷ ys))

pub after_point : (xs ys : List ℕ) → list_all is_ascii_digit xs ≡ true → after_first is_point (xs ++ 46 ∷ ys) ≡ ys
after_point xs ys h = rw (point_after xs ys h) (drop-append-add xs (46 ∷ ys) 1)

pub not_digits : (xs ys : List ℕ) → list_all is_ascii_digit xs ≡ true → are_digits (xs ++ 46 ∷ ys) ≡ false
not_digits xs ys h = rw (list_all-append is_ascii_digit xs (46 ∷ ys), h) (grind arith)

size_point : (xs ys : List ℕ) (n : ℕ) → list_all is_ascii_digit xs ≡ true → 1 ≤ length xs → list_all is_ascii_digit ys ≡ true → 1 ≤ length ys → digits_number (xs ++ ys) ≡ n → n ≤ 10 ^ 18 → size_of (length ys) (xs ++ 46 ∷ ys) ≡ Ok n
unfolding size_of
size_point xs ys n dx sx dy sy e h =
    rw (not_digits xs ys dx, before_point xs ys dx, after_point xs ys dx, digits_of_all xs dx sx, digits_of_all ys dy sy) (sized_small xs ys n e h)

number_up : (places n : ℕ) (xs ys : List ℕ) → list_all is_ascii_digit xs ≡ true → 1 ≤ length xs → size_of places (xs ++ ys) ≡ Ok n → number_of places (xs ++ ys) ≡ Ok (pos n)
unfolding number_of
number_up places n [] ys d s e = absurd (omega arith)
number_up places n (x ∷ xs) ys d s e = grind (arith, no_sign x)

number_down : (places n : ℕ) (text : List ℕ) → size_of places text ≡ Ok n → number_of places (45 ∷ text) ≡ Ok (neg_ℤ (pos n))
unfolding number_of
number_down places n text e = rw e refl

div_within : (n d : ℕ) → n / d ≤ n
div_within n d = omega arith

small : (n places : ℕ) → n ≤ 10 ^ 18 → n / 10 ^ places < 10 ^ 64
small n places h = omega (arith, div_within n (10 ^ places))

size_text : (places n : ℕ) → n ≤ 10 ^ 18 → size_of places (decimal (n / 10 ^ places) ++ fraction_text places n) ≡ Ok n
size_text zero n h =
    let k : n < 10 ^ 64 = omega arith in
    let e : n / 1 ≡ n = omega arith in
    rw (e, append-nil (decimal n)) (size_whole (decimal n) n (digits_of_all (decimal n) (all_decimal n k) (length_some n k)) (fold_decimal n k) h)
size_text (suc p) n h =
    let k : n < 10 ^ 64 = omega arith in
    let w : n / 10 ^ (suc p) < 10 ^ 64 = small n (suc p) h in
    let xs = decimal (n / 10 ^ (suc p)) in
    let ys = last_digits (suc p) n in
    let e : size_of (length ys) (xs ++ 46 ∷ ys) ≡ Ok n = size_point xs ys n (all_decimal (n / 10 ^ (suc p)) w) (length_some (n / 10 ^ (suc p)) w) (all_last (suc p) n) (omega (arith, length-last_digits (suc p) n))
    (fold_append 0 xs ys ∙ ap (λ m. fold push_digit m ys) (fold_decimal (n / 10 ^ (suc p)) w) ∙ fold_last (suc p) n) h in
    subst (λ m. size_of m (xs ++ 46 ∷ ys) ≡ Ok n) (length-last_digits (suc p) n) e

pub back : (places : ℕ) (value : ℤ) → unsigned_abs value ≤ 10 ^ 18 → number_of places (written places value) ≡ Ok value
unfolding written
back places (pos n) h = number_up places n (decimal (n / 10 ^ places)) (fraction_text places n) (all_decimal (n / 10 ^ places) (small n places h)) (length_some (n / 10 ^ places) (small n places h)) (size_text places n h)
back places (negsuc n) h = number_down places (suc n) (decimal (suc n / 10 ^ places) ++ fraction_text places (suc n)) (size_text places (suc n) h)

-- what stands at the front of a list that begins with the written text
pub back_from : (places : ℕ) (value : ℤ) (new rest : List ℕ) (k : ℕ) → new ≡ written places value ++ rest → k ≡ length (written places value) → unsigned_abs value ≤ 10 ^ 18 → number_of places (take k new) ≡ Ok value
back_from places value new rest k e i h = rw (i, e, take-append_seam (written places value) rest) (back places value h)
