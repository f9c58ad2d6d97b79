-- Numbers as a case text writes them: what bytes they have, and what they read as.
use Rattle.std.proofs.Common.{ℕ, ℤ, pos, negsuc, zero, suc, ◌+◌, ◌/◌, ◌%◌, ◌^◌, ◌<◌, ◌≤◌, ◌≡◌, ◌==◌, Bool, true, false, cond, List, [], ◌∷◌, ◌++◌, length, length-append, unsigned_abs, refl, arith}
use Rattle.std.proofs.lemmas.Bool.{and_from}
use Rattle.std.specs.List.{list_all}
use Rattle.std.specs.Fmt.{decimal, digits, digits_onto, digit_glyph}
use Rattle.std.proofs.lemmas.List.Folds.{list_all-append}
use Rattle.fixed_num.specs.Written.{written, sign, fraction_text, last_digits}
use Rattle.round_trip.specs.Plain.{is_number_byte, is_plain_byte, is_plain}
use Rattle.round_trip.proofs.Tests.{all_weaker}

is_digit_of : (m : ℕ) → is_number_byte (48 + m % 10) ≡ true
is_digit_of m = grind arith

is_glyph : (m : ℕ) → is_number_byte (digit_glyph false (m % 10)) ≡ true
is_glyph m = grind arith

one_of : (P : List ℕ → Type 0) (b : Bool) (xs ys : List ℕ) → P xs → P ys → P (cond b xs ys)
one_of P true xs ys h k = h
one_of P false xs ys h k = k

all_onto : (k n : ℕ) (acc : List ℕ) → list_all is_number_byte acc ≡ true → list_all is_number_byte (digits_onto k 10 false n acc) ≡ true
all_onto zero n acc h = h
all_onto (suc k) n acc h =
    let more = digit_glyph false (n % 10) ∷ acc in
    let e : list_all is_number_byte more ≡ true = and_from _ _ (is_glyph n) h in
    one_of (λ (xs : List ℕ). list_all is_number_byte xs ≡ true) (n / 10 == 0) more (digits_onto k 10 false (n / 10) more) e (all_onto k (n / 10) more e)

more_onto : (k n : ℕ) (acc : List ℕ) → 0 < length acc → 0 < length (digits_onto k 10 false n acc)
more_onto zero n acc h = h
more_onto (suc k) n acc h =
    let more = digit_glyph false (n % 10) ∷ acc in
    let e : 0 < length more = omega arith in
    one_of (λ (xs : List ℕ). 0 < length xs) (n / 10 == 0) more (digits_onto k 10 false (n / 10) more) e (more_onto k (n / 10) more e)

some_onto : (k n : ℕ) → 0 < k → 0 < length (digits_onto k 10 false n [])
some_onto zero n h = absurd (omega arith)
some_onto (suc k) n h =
    let more = digit_glyph false (n % 10) ∷ [] in
    let e : 0 < length more = omega arith in
    one_of (λ (xs : List ℕ). 0 < length xs) (n / 10 == 0) more (digits_onto k 10 false (n / 10) more) e (more_onto k (n / 10) more e)

all_decimal : (n : ℕ) → list_all is_number_byte (decimal n) ≡ true
unfolding digits
all_decimal n = all_onto 64 n [] refl

some_decimal : (n : ℕ) → 0 < length (decimal n)
unfolding digits
some_decimal n = some_onto 64 n (omega arith)

all_last : (k n : ℕ) → list_all is_number_byte (last_digits k n) ≡ true
all_last zero n = refl
all_last (suc k) n = and_from _ _ (is_digit_of (n / 10 ^ k)) (all_last k n)

all_fraction : (places n : ℕ) → list_all is_number_byte (fraction_text places n) ≡ true
all_fraction zero n = refl
all_fraction (suc k) n = all_last (suc k) n

all_sign : (x : ℤ) → list_all is_number_byte (sign x) ≡ true
all_sign (pos n) = refl
all_sign (negsuc n) = refl

-- a written number has digits, a sign and a point alone
pub all_written : (places : ℕ) (x : ℤ) → list_all is_number_byte (written places x) ≡ true
unfolding written
all_written places x =
    rw (
      list_all-append is_number_byte (sign x ++ decimal (unsigned_abs x / 10 ^ places)) (fraction_text places (unsigned_abs x)),
      list_all-append is_number_byte (sign x) (decimal (unsigned_abs x / 10 ^ places)),
      all_sign x,
      all_decimal (unsigned_abs x / 10 ^ places),
      all_fraction places (unsigned_abs x),
    ) refl

pub some_written : (places : ℕ) (x : ℤ) → 0 < length (written places x)
unfolding written
some_written places x =
    let s = some_decimal (unsigned_abs x / 10 ^ places) in
    omega (arith, s, length-append (sign x ++ decimal (unsigned_abs x / 10 ^ places)) (fraction_text places (unsigned_abs x)), length-append (sign x) (decimal (unsigned_abs x / 10 ^ places)))

plain_number_byte : (b : ℕ) → is_number_byte b ≡ true → is_plain_byte b ≡ true
plain_number_byte b h = grind arith

plain_number : (text : List ℕ) → 0 < length text → list_all is_number_byte text ≡ true → is_plain text ≡ true
plain_number [] s h = absurd (omega arith)
plain_number (b ∷ bs) s h = all_weaker is_number_byte is_plain_byte plain_number_byte (b ∷ bs) h

pub written_plain : (places : ℕ) (x : ℤ) → is_plain (written places x) ≡ true
written_plain places x = plain_number (written places x) (some_written places x) (all_written places x)
