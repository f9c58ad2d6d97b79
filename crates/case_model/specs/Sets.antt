-- Sets of broken rules as tests, and the refusal that passes of them give.
use Rattle.std.specs.Prelude.{ℕ, ◌<◌, ◌≤◌, ◌≡◌, ◌⊎◌, ◌==◌, ◌&&◌, ◌||◌, Bool, IsTrue, Option, Some}
use Rattle.std.specs.Prelude.{None, List, [], ◌∷◌}
use Rattle.std.specs.List.{list_any, range_with_len}

-- which rules are broken, as pairs of a line and a number
abbrev pub Rules : Type 0
Rules = ℕ → ℕ → Bool

abbrev pub IsEmpty : Rules → Type 0
IsEmpty rules = (line number : ℕ) → IsTrue (rules line number) → ⊥

-- the least pair of a set, by line and then by number
pub record IsLeast (rules : Rules) (line number : ℕ) : Type 0 where
  pub broken : IsTrue (rules line number)
  pub least : (l n : ℕ) → IsTrue (rules l n) → (line < l) ⊎ ((line ≡ l) × (number ≤ n))

-- no pass has a broken rule
abbrev pub AreEmpty : List Rules → Type 0
AreEmpty [] = Unit {0}
AreEmpty (pass ∷ passes) = IsEmpty pass × AreEmpty passes

-- the least pair of the first pass that has one: a pass is judged only where the earlier ones are
-- empty
abbrev pub IsFirst : List Rules → ℕ → ℕ → Type 0
IsFirst [] line number = ⊥
IsFirst (pass ∷ passes) line number =
    IsLeast pass line number ⊎ (IsEmpty pass × IsFirst passes line number)

-- the rules that one item breaks, all on its line
abbrev pub on_line : ℕ → (ℕ → Bool) → Rules
on_line line breaks l number = (line == l) && breaks number

abbrev pub either : Rules → Rules → Rules
either some others line number = some line number || others line number

-- the rules that the first n items break
unfoldable pub any_below : (ℕ → Rules) → ℕ → Rules
any_below rules n line number = list_any (λ k. rules k line number) (range_with_len 0 n)

-- a number is the least that passes a test, or none does
abbrev pub FindsLeast : (ℕ → Bool) → Option ℕ → Type 0
FindsLeast breaks None = (n : ℕ) → IsTrue (breaks n) → ⊥
FindsLeast breaks (Some number) =
    IsTrue (breaks number) × ((n : ℕ) → IsTrue (breaks n) → number ≤ n)
