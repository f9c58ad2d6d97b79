-- What the texts of numbers are read as.
use Rattle.std.proofs.Common.{◌≡◌, ◌==◌, ◌<◌, ◌≤◌, ◌^◌, ap, refl, arith, cond, drop, ℕ, Bool, true, false, List, [], ◌∷◌, Option, Some, None, sym, subst}
use Rattle.std.specs.Prelude.{unwrap_or, pos, Ok, Err, Result, option_map}
use Rattle.std.specs.Str.Parse.{IsNumeral, ParsesUnsigned, digits_value, starts_with_minus, without_leading_plus}
use Rattle.std.proofs.lemmas.Bool.{ne_eqb}
use Rattle.std.proofs.lemmas.Int.{ints}
use Rattle.std.proofs.lemmas.Str.Parse.{digit_from_value}
use Rattle.clap.specs.Matches.{ReadsOne}
use Rattle.clap.specs.Values.{IsSignedIn, IsUnsignedIn}
use Rattle.clap.specs.Words.{Text, one_text, rows_of, without_minus}
use Rattle.clap.specs.declared.parser.matches.Found.{Found}
use Rattle.clap.proofs.WalkLemmas.{one_text-rows}
use Rattle.command_words.specs.CommandLine.{HasIn, IsIn, number_at}

without_minus-cond : (t : List ℕ) → without_minus t ≡ cond (starts_with_minus t) (drop 1 t) t
without_minus-cond [] = refl
without_minus-cond (x ∷ xs) = go (x == 45)
  where
    go : (b : Bool) → unwrap_or (cond b (Some xs) None) (x ∷ xs) ≡ cond b xs (x ∷ xs)
    go true = refl
    go false = refl

no_plus : (ds : List ℕ) → IsNumeral 10 ds → without_leading_plus ds ≡ ds
no_plus [] h = refl
no_plus (d ∷ ds) h =
    let plus : (d == 43) ≡ false = ne_eqb _ _ (λ e. omega (arith, digit_from_value d h.1.0)) in
    ap (λ (b : Bool). drop (cond b 1 0) (d ∷ ds)) plus

is_in_same : (low high : ℕ) (t u : Text) → u ≡ t → IsNumeral 10 t → low ≤ digits_value 10 t → digits_value 10 t ≤ high → without_leading_plus t ≡ t → IsIn low high u
is_in_same low high t u same numeral least most plain =
    subst (λ (x : Text). IsIn low high x) (sym same) (record {
      numeral = rw plain numeral;
      least = rw plain least;
      most = rw plain most;
    })

-- a value that passed a signed parser without negative numbers
pub signed_in : (low high : ℕ) (t : Text) → IsSignedIn (pos low) (pos high) t → IsIn low high (without_minus t)
signed_in low high t passed =
    subst (λ (x : Text). IsIn low high x) (sym (without_minus-cond t)) (go (starts_with_minus t) refl)
  where
    go : (b : Bool) → starts_with_minus t ≡ b → IsIn low high (cond (starts_with_minus t) (drop 1 t) t)
    go true minus =
        let low_ok = rw minus at passed.2 in
        let high_ok = rw minus at passed.3 in
        let numeral : IsNumeral 10 (drop 1 t) = rw minus at passed.0 in
        is_in_same low high (drop 1 t) _ (rw minus refl) numeral (omega (arith, ints)) (omega (arith, ints)) (no_plus (drop 1 t) numeral)
    go false minus =
        let low_ok = rw minus at passed.2 in
        let high_ok = rw minus at passed.3 in
        let numeral : IsNumeral 10 (without_leading_plus t) = rw minus at passed.0 in
        rw minus (record { numeral = numeral; least = omega (arith, ints); most = omega (arith, ints) })

-- and one that passed an unsigned parser
pub unsigned_in : (low high : ℕ) (t : Text) → IsUnsignedIn low high t → IsIn low high t
unsigned_in low high t passed = record { numeral = passed.0; least = passed.2; most = passed.3 }

read_some : {E : Type 0} (G : List ℕ → Result ℕ E → Type 0) (k low high : ℕ) (t : Text) (r : Option ℕ) → IsIn low high t → high < 2 ^ k
    → ((u : List ℕ) (x : Result ℕ E) → G u x → ParsesUnsigned k 10 u x) → ReadsOne G t r
    → r ≡ Some (digits_value 10 (without_leading_plus t))
read_some G k low high t (Some v) i fits only h = ap Some (only t (Ok v) h).1
read_some G k low high t None i fits only h =
    let most = i.most in
    absurd (only t (Err h.0) h.1 (i.numeral, omega arith))

-- the typed getter gives the number under the name
pub read_number : {E : Type 0} (G : List ℕ → Result ℕ E → Type 0) (k low high : ℕ) (f : Found) (id : Text) (r : Option ℕ) → HasIn low high id f → high < 2 ^ k
    → ((u : List ℕ) (x : Result ℕ E) → G u x → ParsesUnsigned k 10 u x)
    → (one_text f id ≡ None → r ≡ None) → ((t : List ℕ) → one_text f id ≡ Some t → ReadsOne G t r)
    → r ≡ number_at id (rows_of f)
unfolding number_at
read_number G k low high f id r has fits only none value = rw (← one_text-rows f id) (go (one_text f id) refl)
  where
    go : (o : Option Text) → one_text f id ≡ o → r ≡ option_map (λ text. digits_value 10 (without_leading_plus text)) o
    go None e = none e
    go (Some t) e = read_some G k low high t r (has t e) fits only (value t e)
