-- Texts that spell numbers: a sign or none, digits, and perhaps a point with digits.
use Rattle.std.specs.Prelude.{ℕ, ℤ, pos, neg_ℤ, ◌-◌, ◌*◌, ◌^◌, ◌==◌, ◌≡◌, ◌⊎◌, nat_lt}
use Rattle.std.specs.Prelude.{if◌then◌else◌, true, List, [], ◌∷◌, ◌++◌, length, Result, Ok, Err}
use Rattle.fixed_num.specs.Decimal.{are_digits, digits_number}
use Rattle.fixed_num.specs.declared.decimal.NumberFault.{NumberFault}
use Rattle.fixed_num.specs.declared.decimal.NumberFault.TheVariants.{Places, Large}

-- nothing, a plus or a minus
abbrev pub IsSign : List ℕ → Type 0
IsSign sign = (sign ≡ []) ⊎ ((sign ≡ 43 ∷ []) ⊎ (sign ≡ 45 ∷ []))

-- nothing, or a point and one or more digits
abbrev pub IsTail : List ℕ → List ℕ → Type 0
IsTail tail fraction =
    ((tail ≡ []) × (fraction ≡ [])) ⊎ ((tail ≡ 46 ∷ fraction) × (are_digits fraction ≡ true))

-- a text spells a number by these parts: a sign or none, one or more digits, and perhaps a point
-- with one or more digits
pub record IsSpelled (text sign whole fraction : List ℕ) : Type 0 where
  pub tail : List ℕ
  pub text_is : text ≡ sign ++ whole ++ tail
  pub sign_is : IsSign sign
  pub whole_is : are_digits whole ≡ true
  pub tail_is : IsTail tail fraction

-- some parts by which a text spells a number
pub record HasSpelling (text : List ℕ) : Type 0 where
  pub sign : List ℕ
  pub whole : List ℕ
  pub fraction : List ℕ
  pub spelled : IsSpelled text sign whole fraction

-- a size below zero behind a minus
abbrev pub signed : List ℕ → ℕ → ℤ
signed [] n = pos n
signed (first ∷ rest) n = if first == 45 then neg_ℤ (pos n) else pos n

-- the size that digits before and after the point give, in the unit 10 ^ -places
abbrev pub size_in : ℕ → List ℕ → List ℕ → ℕ
size_in places whole fraction =
    digits_number (whole ++ fraction) * 10 ^ (places - length fraction)

-- the number of these parts in the unit 10 ^ -places: with more places than the unit has none, nor
-- with a size over 10 ^ 18
unfoldable pub spelled_number : ℕ → List ℕ → List ℕ → List ℕ → Result ℤ NumberFault
spelled_number places sign whole fraction =
    if nat_lt places (length fraction) then Err Places
    else if nat_lt (10 ^ 18) (size_in places whole fraction) then Err Large
    else Ok (signed sign (size_in places whole fraction))
