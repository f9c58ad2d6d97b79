-- Which texts spell a number, and which number it is.
use Rattle.std.proofs.Common.{inl, inr, ℕ, ◌+◌, ◌^◌, ◌<◌, ◌≡◌, ◌⊎◌, ◌==◌, ◌&&◌, nat_lt, Bool, true, false, cond, ℤ, pos, neg_ℤ, List, [], ◌∷◌, ◌++◌, length, get_or, Ok, Err, refl, sym, ap, ◌∙◌, arith}
use Rattle.std.proofs.lemmas.List.{append-nil, append_assoc, length-drop}
use Rattle.std.proofs.lemmas.List.Sums.{split_at_first, passes_at_first}
use Rattle.std.proofs.lemmas.Bool.{and_parts, eqb-true, ltb-true}
use Rattle.std.specs.List.{list_all, position_or_len, before_first, after_first}
use Rattle.std.specs.Char.{is_ascii_digit}
use Rattle.fixed_num.specs.Decimal.{is_point, are_digits, sized, size_of, signed_by, number_of}
use Rattle.fixed_num.specs.declared.decimal.NumberFault.TheVariants.{Spelling, Places, Large}
use Rattle.fixed_num.specs.Spelled.{IsTail, IsSpelled, HasSpelling, signed, size_in, spelled_number}
use Rattle.fixed_num.proofs.Back.{no_sign, before_point, after_point, not_digits}

size_of_digits : (places : ℕ) (whole : List ℕ) → are_digits whole ≡ true → size_of places whole ≡ sized places whole []
unfolding size_of
size_of_digits places whole d = rw d refl

-- the size of the parts
size_of_parts : (places : ℕ) (whole tail fraction : List ℕ) → are_digits whole ≡ true → IsTail tail fraction → size_of places (whole ++ tail) ≡ sized places whole fraction
unfolding size_of
size_of_parts places whole tail fraction d (inl t) =
    ap (λ (rest : List ℕ). size_of places (whole ++ rest)) t.0 ∙ ap (size_of places) (append-nil whole)
    ∙ size_of_digits places whole d ∙ ap (sized places whole) (sym t.1)
size_of_parts places whole tail fraction d (inr t) =
    let all = (and_parts (nat_lt 0 (length whole)) (list_all is_ascii_digit whole) d).1 in
    rw (t.0, not_digits whole fraction all, before_point whole fraction all, after_point whole fraction all, d, t.1) refl

-- a text that begins with a digit has no sign
number_of_digits : (places : ℕ) (whole tail : List ℕ) → are_digits whole ≡ true → number_of places (whole ++ tail) ≡ signed_by pos (size_of places (whole ++ tail))
unfolding number_of
number_of_digits places [] tail d = absurd (cc)
number_of_digits places (x ∷ xs) tail d =
    let all = (and_parts (nat_lt 0 (length (x ∷ xs))) (list_all is_ascii_digit (x ∷ xs)) d).1 in
    let none = no_sign x (and_parts (is_ascii_digit x) (list_all is_ascii_digit xs) all).0 in
    rw (none.0, none.1) refl

signed_cases : (f : ℕ → ℤ) (a b : Bool) (n : ℕ) → signed_by f (cond a (Err Places) (cond b (Err Large) (Ok n))) ≡ cond a (Err Places) (cond b (Err Large) (Ok (f n)))
signed_cases f true b n = refl
signed_cases f false true n = refl
signed_cases f false false n = refl

number_with : (places : ℕ) (sign whole fraction : List ℕ) (f : ℕ → ℤ) → ((n : ℕ) → f n ≡ signed sign n) → signed_by f (sized places whole fraction) ≡ spelled_number places sign whole fraction
unfolding spelled_number
number_with places sign whole fraction f e =
    let n = size_in places whole fraction in
    signed_cases f (nat_lt places (length fraction)) (nat_lt (10 ^ 18) n) n
    ∙ ap (λ (z : ℤ). cond (nat_lt places (length fraction)) (Err Places) (cond (nat_lt (10 ^ 18) n) (Err Large) (Ok z))) (e n)

number_behind : (places : ℕ) (sign whole tail fraction : List ℕ) → (sign ≡ []) ⊎ ((sign ≡ 43 ∷ []) ⊎ (sign ≡ 45 ∷ [])) → are_digits whole ≡ true → IsTail tail fraction
    → number_of places (sign ++ whole ++ tail) ≡ spelled_number places sign whole fraction
unfolding number_of
number_behind places sign whole tail fraction (inl s) d t =
    rw s (number_of_digits places whole tail d ∙ ap (signed_by pos) (size_of_parts places whole tail fraction d t)
    ∙ number_with places [] whole fraction pos (λ n. refl))
number_behind places sign whole tail fraction (inr (inl s)) d t =
    rw s (ap (signed_by pos) (size_of_parts places whole tail fraction d t) ∙ number_with places (43 ∷ []) whole fraction pos (λ n. refl))
number_behind places sign whole tail fraction (inr (inr s)) d t =
    rw s (ap (signed_by (λ n. neg_ℤ (pos n))) (size_of_parts places whole tail fraction d t) ∙ number_with places (45 ∷ []) whole fraction (λ n. neg_ℤ (pos n)) (λ n. refl))

pub number_spelled : (places : ℕ) (text sign whole fraction : List ℕ) → IsSpelled text sign whole fraction → number_of places text ≡ spelled_number places sign whole fraction
number_spelled places text sign whole fraction s =
    ap (number_of places) s.text_is ∙ number_behind places sign whole s.tail fraction s.sign_is s.whole_is s.tail_is

-- such a text has no fault of spelling
no_spelling : (a b : Bool) (z : ℤ) → cond a (Err Places) (cond b (Err Large) (Ok z)) ≡ Err Spelling → ⊥
no_spelling true b z e = cc
no_spelling false true z e = cc
no_spelling false false z e = cc

pub spelled_well : (places : ℕ) (text : List ℕ) → HasSpelling text → number_of places text ≡ Err Spelling → ⊥
unfolding spelled_number
spelled_well places text h e =
    no_spelling (nat_lt places (length h.fraction)) (nat_lt (10 ^ 18) (size_in places h.whole h.fraction)) (signed h.sign (size_in places h.whole h.fraction))
    (sym (number_spelled places text h.sign h.whole h.fraction h.spelled) ∙ e)

-- a text without a sign that has no fault of spelling
record HasParts (bytes : List ℕ) : Type 0 where
  whole : List ℕ
  tail : List ℕ
  fraction : List ℕ
  text : bytes ≡ whole ++ tail
  whole_is : are_digits whole ≡ true
  tail_is : IsTail tail fraction

point_is : (x : ℕ) → is_point x ≡ true → x ≡ 46
point_is x h = eqb-true x 46 h

pointed : (bytes : List ℕ) → are_digits (after_first is_point bytes) ≡ true → bytes ≡ before_first is_point bytes ++ 46 ∷ after_first is_point bytes
pointed bytes d =
    let at = position_or_len is_point bytes in
    let some = ltb-true 0 (length (after_first is_point bytes)) (and_parts (nat_lt 0 (length (after_first is_point bytes))) (list_all is_ascii_digit (after_first is_point bytes)) d).0 in
    let l : at < length bytes = omega (arith, length-drop (at + 1) bytes) in
    let x : get_or bytes at 0 ≡ 46 = point_is (get_or bytes at 0) (passes_at_first is_point bytes 0 l) in
    split_at_first is_point bytes 0 l ∙ ap (λ (b : ℕ). before_first is_point bytes ++ b ∷ after_first is_point bytes) x

size_cases : (places : ℕ) (bytes : List ℕ) (a b : Bool) → are_digits bytes ≡ a → (are_digits (before_first is_point bytes) && are_digits (after_first is_point bytes)) ≡ b
    → (cond a (sized places bytes []) (cond b (sized places (before_first is_point bytes) (after_first is_point bytes)) (Err Spelling)) ≡ Err Spelling) ⊎ HasParts bytes
size_cases places bytes true b d e = inr (record { whole = bytes; tail = []; fraction = []; text = sym (append-nil bytes); whole_is = d; tail_is = inl (refl, refl) })
size_cases places bytes false false d e = inl refl
size_cases places bytes false true d e =
    let whole = before_first is_point bytes in
    let fraction = after_first is_point bytes in
    let p = and_parts (are_digits whole) (are_digits fraction) e in
    inr (record { whole = whole; tail = 46 ∷ fraction; fraction = fraction; text = pointed bytes p.1; whole_is = p.0; tail_is = inr (refl, p.1) })

size_either : (places : ℕ) (bytes : List ℕ) → (size_of places bytes ≡ Err Spelling) ⊎ HasParts bytes
unfolding size_of
size_either places bytes = size_cases places bytes (are_digits bytes) (are_digits (before_first is_point bytes) && are_digits (after_first is_point bytes)) refl refl

with_sign : (f : ℕ → ℤ) (places : ℕ) (text sign rest : List ℕ) → text ≡ sign ++ rest → (sign ≡ []) ⊎ ((sign ≡ 43 ∷ []) ⊎ (sign ≡ 45 ∷ [])) → (size_of places rest ≡ Err Spelling) ⊎ HasParts rest
    → (signed_by f (size_of places rest) ≡ Err Spelling) ⊎ HasSpelling text
with_sign f places text sign rest t s (inl e) = inl (rw e refl)
with_sign f places text sign rest t s (inr h) = inr (record {
  sign = sign;
  whole = h.whole;
  fraction = h.fraction;
  spelled = record {
    tail = h.tail;
    text_is = t ∙ ap (λ (r : List ℕ). sign ++ r) h.text ∙ sym (append_assoc sign h.whole h.tail);
    sign_is = s;
    whole_is = h.whole_is;
    tail_is = h.tail_is;
  };
})

first_cases : (places first : ℕ) (rest : List ℕ) (a b : Bool) → (first == 45) ≡ a → (first == 43) ≡ b
    → (cond a (signed_by (λ n. neg_ℤ (pos n)) (size_of places rest)) (cond b (signed_by pos (size_of places rest)) (signed_by pos (size_of places (first ∷ rest)))) ≡ Err Spelling) ⊎ HasSpelling (first ∷ rest)
first_cases places first rest true b d e =
    with_sign (λ n. neg_ℤ (pos n)) places (first ∷ rest) (45 ∷ []) rest (ap (λ (x : ℕ). x ∷ rest) (eqb-true first 45 d)) (inr (inr refl)) (size_either places rest)
first_cases places first rest false true d e =
    with_sign pos places (first ∷ rest) (43 ∷ []) rest (ap (λ (x : ℕ). x ∷ rest) (eqb-true first 43 e)) (inr (inl refl)) (size_either places rest)
first_cases places first rest false false d e =
    with_sign pos places (first ∷ rest) [] (first ∷ rest) refl (inl refl) (size_either places (first ∷ rest))

pub spelled_or_not : (places : ℕ) (text : List ℕ) → (number_of places text ≡ Err Spelling) ⊎ HasSpelling text
unfolding number_of
spelled_or_not places [] = inl refl
spelled_or_not places (first ∷ rest) = first_cases places first rest (first == 45) (first == 43) refl refl
