-- Lines of fields, with one blank between them and a line end after each.
use Rattle.std.specs.Prelude.{ℕ, pos, List, [], ◌∷◌, ◌++◌}
use Rattle.std.specs.List.{flat_map, join_with_byte}
use Rattle.fixed_num.specs.Written.{written}

-- a line of fields
abbrev pub line_of : List (List ℕ) → List ℕ
line_of fields = join_with_byte 32 fields ++ 10 ∷ []

-- fields with a blank before each
abbrev pub fields_text : List (List ℕ) → List ℕ
fields_text fields = flat_map (λ field. 32 ∷ field) fields

-- a count, a step or a place
abbrev pub count_text : ℕ → List ℕ
count_text n = written 0 (pos n)
