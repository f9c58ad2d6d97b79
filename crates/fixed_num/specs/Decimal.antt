use Rattle.std.specs.Prelude.{if◌then◌else◌, ◌+◌, ◌-◌, ◌*◌, ◌^◌, ◌==◌, ◌&&◌, nat_lt, min, Bool}
use Rattle.std.specs.Prelude.{ℕ, ℤ, pos, neg_ℤ, List, [], ◌∷◌, ◌++◌, length, Result, Ok, Err}
use Rattle.std.specs.List.{fold, list_all, before_first, after_first}
use Rattle.std.specs.Char.{is_ascii_digit}
use Rattle.fixed_num.specs.declared.decimal.NumberFault.{NumberFault}
use Rattle.fixed_num.specs.declared.decimal.NumberFault.TheVariants.{Spelling, Places, Large}

-- a number with one more digit
abbrev pub push_digit : ℕ → ℕ → ℕ
push_digit n digit = 10 * n + (digit - 48)

-- the number that digits spell
abbrev pub digits_number : List ℕ → ℕ
digits_number digits = fold push_digit 0 digits

-- one or more digits, and nothing else
abbrev pub are_digits : List ℕ → Bool
are_digits bytes = nat_lt 0 (length bytes) && list_all is_ascii_digit bytes

abbrev pub is_point : ℕ → Bool
is_point byte = byte == 46

-- a number with zeros behind it, where that is at most 10 ^ 18
abbrev pub scaled : ℕ → ℕ → Result ℕ NumberFault
scaled zeros n = if nat_lt (10 ^ 18) (n * 10 ^ zeros) then Err Large else Ok (n * 10 ^ zeros)

-- the size that the digits before and after the point give, in the unit 10 ^ -places
abbrev pub sized : ℕ → List ℕ → List ℕ → Result ℕ NumberFault
sized places whole fraction =
    if nat_lt places (length fraction) then Err Places
    else scaled (places - length fraction) (digits_number (whole ++ fraction))

-- the size that the texts before and after the point spell
abbrev pub parted : ℕ → List ℕ → List ℕ → Result ℕ NumberFault
parted places whole fraction =
    if are_digits whole && are_digits fraction then sized places whole fraction else Err Spelling

-- the size that a text with no sign spells
unfoldable pub size_of : ℕ → List ℕ → Result ℕ NumberFault
size_of places bytes =
    if are_digits bytes then sized places bytes []
    else parted places (before_first is_point bytes) (after_first is_point bytes)

-- a size with its sign, or the same fault
abbrev pub signed_by : (ℕ → ℤ) → Result ℕ NumberFault → Result ℤ NumberFault
signed_by sign (Ok n) = Ok (sign n)
signed_by sign (Err fault) = Err fault

-- the number that a text spells, in the unit 10 ^ -places
unfoldable pub number_of : ℕ → List ℕ → Result ℤ NumberFault
number_of places [] = Err Spelling
number_of places (first ∷ rest) =
    if first == 45 then signed_by (λ n. neg_ℤ (pos n)) (size_of places rest)
    else if first == 43 then signed_by pos (size_of places rest)
    else signed_by pos (size_of places (first ∷ rest))

-- a number, or 10 ^ 18 + 1 where it is over that
abbrev pub capped : ℕ → ℕ
capped n = min n 1_000_000_000_000_000_001
