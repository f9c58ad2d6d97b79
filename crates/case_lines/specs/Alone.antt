-- The rules that a line breaks by itself: 1 first line, 2 unknown word, 3 count of fields, 4
-- spelling, 5 number out of limits, 10 too many or too long, 14 table order.
use Rattle.std.specs.Prelude.{ℕ, ◌-◌, ◌==◌, ◌&&◌, ◌||◌, not, nat_lt, Bool, false, Option, Some}
use Rattle.std.specs.Prelude.{None, if◌then◌else◌, List, length}
use Rattle.std.specs.List.{list_any, range_with_len}
use Rattle.std.specs.Option.{is_some}
use Rattle.case_lines.specs.declared.words.Directive.{Directive}
use Rattle.case_lines.specs.declared.quantities.Quantity.{Quantity}
use Rattle.case_lines.specs.declared.fields.FieldKind.{FieldKind}
use Rattle.case_lines.specs.declared.fields.FieldKind.TheVariants.{NewName, NodeName, PipeName}
use Rattle.case_lines.specs.declared.fields.FieldKind.TheVariants.{Reference, Number, Value}
use Rattle.case_lines.specs.declared.fields.FieldKind.TheVariants.{FrictionWord}
use Rattle.case_lines.specs.Words.{directive_of, directive_in, friction_of}
use Rattle.case_lines.specs.Quantities.{limits, quantity_in, is_spelt, is_outside}
use Rattle.case_lines.specs.Fields.{field, is_heading, is_name, is_marked, is_reference, field_kind}
use Rattle.case_lines.specs.Fields.{has_count, has_too_many}
use Rattle.case_lines.specs.Tables.{is_disordered}

-- the rules that a name breaks: its bytes are others than those of a name; it has over 32 bytes
unfoldable pub breaks_name : List ℕ → ℕ → Bool
breaks_name text number =
    ((number == 4) && not (is_name text)) || ((number == 10) && nat_lt 32 (length text))

-- the same of a reference, which has its mark in front
unfoldable pub breaks_reference : List ℕ → ℕ → Bool
breaks_reference text number =
    ((number == 4) && not (is_reference text)) || ((number == 10) && nat_lt 33 (length text))

-- the rules that a number breaks: its spelling, with its places; its limits
unfoldable pub breaks_number : Quantity → List ℕ → ℕ → Bool
breaks_number quantity text number =
    ((number == 4) && not (is_spelt (quantity_in quantity text)))
    || ((number == 5) && is_outside (limits quantity) (quantity_in quantity text))

-- the rules that a word on friction breaks: it says no way to take it
unfoldable pub breaks_friction : List ℕ → ℕ → Bool
breaks_friction text number = (number == 4) && not (is_some (friction_of text))

-- the rules that a field breaks
unfoldable pub breaks_field : FieldKind → List ℕ → ℕ → Bool
breaks_field NewName text number = breaks_name text number
breaks_field NodeName text number = breaks_name text number
breaks_field PipeName text number = breaks_name text number
breaks_field (Reference kind) text number = breaks_reference text number
breaks_field (Number quantity) text number = breaks_number quantity text number
breaks_field (Value quantity kind) text number =
    if is_marked text then breaks_reference text number else breaks_number quantity text number
breaks_field FrictionWord text number = breaks_friction text number

-- the rules that the first n fields behind the word of a line break
unfoldable pub breaks_fields : Directive → List (List ℕ) → ℕ → ℕ → Bool
breaks_fields directive fields n number =
    list_any (λ k. breaks_field (field_kind directive k) (field fields k) number)
    (range_with_len 1 n)

-- whether each field is spelt and within its limits
abbrev pub is_readable : Directive → List (List ℕ) → Bool
is_readable directive fields =
    not (breaks_fields directive fields (length fields - 1) 4)
    && not (breaks_fields directive fields (length fields - 1) 5)

-- the rules that a line with the right count of fields breaks; the order of a table is judged where
-- its numbers can be read
unfoldable pub breaks_counted : Directive → List (List ℕ) → ℕ → Bool
breaks_counted directive fields number =
    breaks_fields directive fields (length fields - 1) number
    || ((number == 10) && has_too_many directive (length fields))
    || ((number == 14) && is_readable directive fields && is_disordered directive fields)

-- the rules that a line with this directive breaks: with a wrong count of fields no other one
abbrev pub breaks_known : Option Directive → List (List ℕ) → ℕ → Bool
breaks_known None fields number = number == 2
breaks_known (Some directive) fields number =
    if has_count directive (length fields) then breaks_counted directive fields number
    else number == 3

-- the rules that a line breaks by itself, by the version of the text and its number in the text; a
-- line without fields breaks none behind line 1
unfoldable pub breaks_alone : ℕ → ℕ → List (List ℕ) → ℕ → Bool
breaks_alone version line fields number =
    if line == 1 then (number == 1) && not (is_heading fields)
    else if length fields == 0 then false
    else breaks_known (directive_in version (directive_of (field fields 0))) fields number
