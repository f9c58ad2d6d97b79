-- The refusal that passes of rules give, as a function: the least pair of the first pass that has
-- one.
use Rattle.std.specs.Prelude.{ℕ, Option, Some, None, List, [], ◌∷◌}
use Rattle.std.specs.List.{find}
use Rattle.case_model.specs.Sets.{Rules}

-- a refusal: a broken rule by its number, and the line on which it is broken
pub record Refusal : Type 0 where
  pub number : ℕ
  pub line : ℕ

-- the refusal of a line, by the least number that is broken on it, or else that of the lines after
-- it
abbrev pub found_on : ℕ → Option ℕ → Option Refusal → Option Refusal
found_on line (Some number) later = Some (record { number = number; line = line })
found_on line None later = later

-- the least pair of a set among these lines and numbers, both in rising order
unfoldable pub least_of : Rules → List ℕ → List ℕ → Option Refusal
least_of rules numbers [] = None
least_of rules numbers (line ∷ lines) =
    found_on line (find (rules line) numbers) (least_of rules numbers lines)

abbrev pub or_found : Option Refusal → Option Refusal → Option Refusal
or_found (Some refusal) later = Some refusal
or_found None later = later

-- the least pair of the first pass that has one, among these lines and numbers
unfoldable pub first_of : List Rules → List ℕ → List ℕ → Option Refusal
first_of [] numbers lines = None
first_of (pass ∷ passes) numbers lines =
    or_found (least_of pass numbers lines) (first_of passes numbers lines)
