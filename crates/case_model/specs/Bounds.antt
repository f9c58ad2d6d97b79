-- Within which lines and numbers a refusal is searched, and what is found.
use Rattle.std.specs.Prelude.{ℕ, ◌<◌, ◌≤◌, ◌≡◌, ◌⊎◌, IsTrue, List, [], ◌∷◌, Option, Some, None}
use Rattle.case_model.specs.Search.{Refusal}
use Rattle.case_model.specs.Sets.{Rules, IsEmpty, IsLeast, AreEmpty, IsFirst}

-- one of these numbers
abbrev pub IsOneOf : List ℕ → ℕ → Type 0
IsOneOf [] n = ⊥
IsOneOf (m ∷ numbers) n = (n ≡ m) ⊎ IsOneOf numbers n

-- numbers in rising order
abbrev pub IsRising : List ℕ → Type 0
IsRising [] = Unit {0}
IsRising (m ∷ numbers) = ((n : ℕ) → IsOneOf numbers n → m ≤ n) × IsRising numbers

-- a set holds no pair beyond so many lines and these numbers
abbrev pub IsBounded : List ℕ → ℕ → Rules → Type 0
IsBounded numbers count rules =
    (line number : ℕ) → IsTrue (rules line number) → (line < count) × IsOneOf numbers number

abbrev pub AreBounded : List ℕ → ℕ → List Rules → Type 0
AreBounded numbers count [] = Unit {0}
AreBounded numbers count (pass ∷ passes) =
    IsBounded numbers count pass × AreBounded numbers count passes

-- what a search says of a set: none is broken, or the least pair
abbrev pub LeastOrNone : Rules → Option Refusal → Type 0
LeastOrNone rules None = IsEmpty rules
LeastOrNone rules (Some r) = IsLeast rules r.line r.number

-- what a search says of passes
abbrev pub FirstOrNone : List Rules → Option Refusal → Type 0
FirstOrNone passes None = AreEmpty passes
FirstOrNone passes (Some r) = IsFirst passes r.line r.number
