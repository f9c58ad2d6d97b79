-- The texts of one line: usage, acceptance, refusals, and the place whose numbers left their range.
use Rattle.std.specs.Prelude.{ℕ, zero, suc, List, [], ◌∷◌, Option, Some, None, codes, slice_get}
use Rattle.case_model.specs.PlaceNumbers.{place_at}
use Rattle.case_model.specs.declared.cases.Case.{Case}
use Rattle.case_model.specs.declared.meshes.Mesh.{Mesh}
use Rattle.surge_io.specs.Fields.{line_of, count_text}
use Rattle.report.specs.Lines.{label}

-- the line for words that aren't those of a command
unfoldable pub usage_text : List ℕ
usage_text =
    line_of (codes "usage:" ∷ codes "surge" ∷ codes "check|mesh|rounds|run|drill|upgrade"
    ∷ codes "[number]" ∷ codes "[--workers n]" ∷ codes "[--slots n]" ∷ codes "[--window n]" ∷ [])

-- the line for a case text that is accepted
unfoldable pub accepted_text : List ℕ
accepted_text = line_of (codes "accepted" ∷ [])

-- what the refusals stand for, those of the numbers 1, 2, 3 .. in turn
abbrev pub reasons : List (List ℕ)
reasons =
    codes "first line"
    ∷ codes "unknown word"
    ∷ codes "count of fields"
    ∷ codes "spelling"
    ∷ codes "number out of limits"
    ∷ codes "name repeated"
    ∷ codes "name unknown"
    ∷ codes "directive missing"
    ∷ codes "directive repeated"
    ∷ codes "too many or too long"
    ∷ codes "ends do not suit"
    ∷ codes "reaches"
    ∷ codes "wave speed over tolerance"
    ∷ codes "table order"
    ∷ codes "coefficient out of limits"
    ∷ codes "probe off the mesh"
    ∷ []

-- what a refusal's number stands for; a number that isn't that of a refusal has no text
abbrev pub reason_of : ℕ → Option (List ℕ)
reason_of zero = None
reason_of (suc before) = slice_get reasons before

-- a field where there is one
abbrev pub field_of : Option (List ℕ) → List (List ℕ)
field_of (Some field) = field ∷ []
field_of None = []

unfoldable pub refusal_text : ℕ → ℕ → List ℕ
refusal_text number line =
    line_of (codes "refused" ∷ count_text number ∷ codes "line" ∷ count_text line
    ∷ field_of (reason_of number))

-- the line that names a place, by its number, whose numbers left their range at a step
unfoldable pub range_text : Case → Mesh → ℕ → ℕ → List ℕ
range_text case mesh step place =
    line_of (codes "range" ∷ count_text step ∷ label case (place_at mesh place))
