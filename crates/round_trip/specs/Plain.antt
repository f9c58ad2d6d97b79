-- Fields that stand in a line as they are.
use Rattle.std.specs.Prelude.{ℕ, ◌<◌, ◌≡◌, ◌==◌, ◌&&◌, ◌||◌, not, Bool, true, false, List, [], ◌∷◌}
use Rattle.std.specs.Prelude.{length, All}
use Rattle.std.specs.List.{list_all}
use Rattle.std.specs.Char.{is_ascii_digit}
use Rattle.case_lines.specs.Texts.{is_blank}

-- a digit, a hyphen or a point
abbrev pub is_number_byte : ℕ → Bool
is_number_byte b = is_ascii_digit b || (b == 45) || (b == 46)

-- no line end, carriage return, number sign, blank or tab
abbrev pub is_plain_byte : ℕ → Bool
is_plain_byte b = not ((b == 10) || (b == 13) || (b == 35) || is_blank b)

-- one or more such bytes
abbrev pub is_plain : List ℕ → Bool
is_plain [] = false
is_plain (b ∷ more) = is_plain_byte b && list_all is_plain_byte more

-- one or more such fields
pub record IsPlainLine (fields : List (List ℕ)) : Type 0 where
  pub some : 0 < length fields
  pub plain : All (λ f. is_plain f ≡ true) fields
