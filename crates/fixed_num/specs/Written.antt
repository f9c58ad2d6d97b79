use Rattle.std.specs.Prelude.{take, drop, length, ℕ, zero, suc, ◌+◌, ◌/◌, ◌%◌, ◌^◌}
use Rattle.std.specs.Prelude.{List, [], ◌∷◌, ◌++◌, ℤ, pos, negsuc, unsigned_abs}
use Rattle.std.specs.Fmt.{decimal}

-- the last k digits of a number
abbrev pub last_digits : ℕ → ℕ → List ℕ
last_digits zero n = []
last_digits (suc k) n = (48 + n / 10 ^ k % 10) ∷ last_digits k n

-- what stands before the size
abbrev pub sign : ℤ → List ℕ
sign (pos n) = []
sign (negsuc n) = 45 ∷ []

-- a point and so many digits, or nothing
abbrev pub fraction_text : ℕ → ℕ → List ℕ
fraction_text zero n = []
fraction_text (suc k) n = 46 ∷ last_digits (suc k) n

-- a number in the unit 10 ^ -places
unfoldable pub written : ℕ → ℤ → List ℕ
written places value =
    sign value ++ decimal (unsigned_abs value / 10 ^ places)
    ++ fraction_text places (unsigned_abs value)

-- a list with a text put over it from a place on
abbrev pub placed : ℕ → List ℕ → List ℕ → List ℕ
placed at text old = take at old ++ text ++ drop (at + length text) old
