-- The lines of a case text, and the fields of a line.
use Rattle.std.specs.Prelude.{ℕ, ◌-◌, ◌==◌, ◌||◌, nat_lt, Bool, if◌then◌else◌, List, [], ◌∷◌}
use Rattle.std.specs.Prelude.{length, take, filter, map, slice_index_or}
use Rattle.std.specs.List.{slice_split, before_first}

-- the lines among the parts between line ends: an empty part behind the last line end is no line
abbrev pub lines_between : List (List ℕ) → List (List ℕ)
lines_between [] = []
lines_between (part ∷ []) = if length part == 0 then [] else part ∷ []
lines_between (part ∷ next ∷ more) = part ∷ lines_between (next ∷ more)

-- the lines of a text, without their line ends
unfoldable pub text_lines : List ℕ → List (List ℕ)
text_lines bytes = lines_between (slice_split (λ b. b == 10) bytes)

-- a line without the carriage return at its end, where it has one
abbrev pub without_return : List ℕ → List ℕ
without_return line =
    if slice_index_or line (length line - 1) 0 == 13 then take (length line - 1) line else line

-- a line without its comment, which begins at the first number sign
abbrev pub without_comment : List ℕ → List ℕ
without_comment line = before_first (λ b. b == 35) line

-- a blank or a tab
abbrev pub is_blank : ℕ → Bool
is_blank b = (b == 32) || (b == 9)

abbrev pub is_some : List ℕ → Bool
is_some part = nat_lt 0 (length part)

-- the fields of a text without a comment
unfoldable pub parts_of : List ℕ → List (List ℕ)
parts_of text = filter is_some (slice_split is_blank text)

-- the fields of a line: a carriage return at its end counts nowhere, nor does its comment
unfoldable pub fields_of : List ℕ → List (List ℕ)
fields_of line = parts_of (without_comment (without_return line))

-- the fields of each line of a text
unfoldable pub lines_of : List ℕ → List (List (List ℕ))
lines_of bytes = map fields_of (text_lines bytes)
