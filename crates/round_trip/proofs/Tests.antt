-- Tests of bytes and of lists of bytes.
use Rattle.std.proofs.Common.{ℕ, ◌≡◌, ◌==◌, ◌||◌, not, Bool, true, false, List, [], ◌∷◌, refl, arith}
use Rattle.std.proofs.lemmas.Bool.{and_parts, and_from}
use Rattle.std.specs.List.{list_all, All}
use Rattle.std.proofs.lemmas.List.Elements.{All-nil, All-cons}
use Rattle.case_lines.specs.Texts.{is_blank}
use Rattle.case_lines.specs.Fields.{is_name, is_name_byte}
use Rattle.round_trip.specs.Plain.{is_plain_byte, is_plain}

-- none of four tests passes
pub record AreNone (a b c d : Bool) : Type 0 where
  pub first : a ≡ false
  pub second : b ≡ false
  pub third : c ≡ false
  pub fourth : d ≡ false

none_of_four : (a b c d : Bool) → not (a || b || c || d) ≡ true → AreNone a b c d
none_of_four false false false false h = record { first = refl; second = refl; third = refl; fourth = refl }
none_of_four true b c d h = absurd (grind arith)
none_of_four false true c d h = absurd (grind arith)
none_of_four false false true d h = absurd (grind arith)
none_of_four false false false true h = absurd (grind arith)

-- what a plain byte is not
pub plain_byte : (b : ℕ) → is_plain_byte b ≡ true → AreNone (b == 10) (b == 13) (b == 35) (is_blank b)
plain_byte b h = none_of_four (b == 10) (b == 13) (b == 35) (is_blank b) h

pub all_weaker : (p q : ℕ → Bool) → ((b : ℕ) → p b ≡ true → q b ≡ true) → (xs : List ℕ) → list_all p xs ≡ true → list_all q xs ≡ true
all_weaker p q w [] h = refl
all_weaker p q w (x ∷ xs) h = and_from (q x) (list_all q xs) (w x (and_parts (p x) (list_all p xs) h).0) (all_weaker p q w xs (and_parts (p x) (list_all p xs) h).1)

pub all_of_plain : (xs : List ℕ) → is_plain xs ≡ true → list_all is_plain_byte xs ≡ true
all_of_plain [] h = refl
all_of_plain (x ∷ xs) h = h

-- a test that no byte of a kind passes, over bytes of that kind
pub none_passes : (p q : ℕ → Bool) → ((b : ℕ) → q b ≡ true → p b ≡ false) → (xs : List ℕ) → list_all q xs ≡ true → All (λ b. p b ≡ false) xs
none_passes p q w [] h = All-nil (λ (b : ℕ). p b ≡ false)
none_passes p q w (x ∷ xs) h = All-cons (λ (b : ℕ). p b ≡ false) x xs (w x (and_parts (q x) (list_all q xs) h).0) (none_passes p q w xs (and_parts (q x) (list_all q xs) h).1)

name_byte : (b : ℕ) → is_name_byte b ≡ true → is_plain_byte b ≡ true
name_byte b h = grind arith

-- a name is a plain field, also behind a mark
pub name_plain : (name : List ℕ) → is_name name ≡ true → is_plain name ≡ true
name_plain [] h = h
name_plain (b ∷ bs) h = all_weaker is_name_byte is_plain_byte name_byte (b ∷ bs) (and_parts _ (list_all is_name_byte (b ∷ bs)) h).1

pub marked_plain : (name : List ℕ) → is_plain name ≡ true → is_plain (64 ∷ name) ≡ true
marked_plain name h = all_of_plain name h
