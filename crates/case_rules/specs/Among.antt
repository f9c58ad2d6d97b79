-- The first pass: the rules that a line breaks alone, and those that it breaks among the others.
-- 6 name repeated, 7 name unknown, 9 directive repeated.
use Rattle.std.specs.Prelude.{ℕ, ◌-◌, ◌==◌, ◌&&◌, ◌||◌, not, nat_lt, nat_le, Bool, false, Option}
use Rattle.std.specs.Prelude.{Some, None, List, length, take}
use Rattle.std.specs.List.{list_any, range_with_len}
use Rattle.case_model.specs.Sets.{Rules}
use Rattle.case_lines.specs.declared.words.Directive.{Directive}
use Rattle.case_lines.specs.declared.fields.FieldKind.{FieldKind}
use Rattle.case_lines.specs.declared.fields.FieldKind.TheVariants.{NodeName, PipeName}
use Rattle.case_lines.specs.declared.fields.FieldKind.TheVariants.{Reference, Value}
use Rattle.case_lines.specs.Fields.{field, is_marked, referred, field_kind, has_count}
use Rattle.case_lines.specs.Words.{directive_in}
use Rattle.case_lines.specs.Alone.{breaks_alone}
use Rattle.case_rules.specs.declared.parts.Part.TheVariants.{ANode, APipe}
use Rattle.case_rules.specs.Said.{line_at, version_of, directive_said, is_definition, defines}
use Rattle.case_rules.specs.Said.{defines_part}
use Rattle.case_rules.specs.Said.{table_part, is_single, is_single_of}

-- the directive of a line in the version of all lines
abbrev pub directive_among : List (List (List ℕ)) → List (List ℕ) → Option Directive
directive_among all fields = directive_in (version_of all) (directive_said fields)

-- whether a field uses a name that none of these lines defines in the kind that is wanted
unfoldable pub is_unknown : List (List (List ℕ)) → FieldKind → List ℕ → Bool
is_unknown lines NodeName text = not (list_any (defines_part ANode text) lines)
is_unknown lines PipeName text = not (list_any (defines_part APipe text) lines)
is_unknown lines (Reference kind) text =
    not (list_any (defines_part (table_part kind) (referred text)) lines)
is_unknown lines (Value quantity kind) text =
    is_marked text && not (list_any (defines_part (table_part kind) (referred text)) lines)
is_unknown lines _ text = false

-- whether one of the first n fields behind the word does so
unfoldable pub uses_unknown : List (List (List ℕ)) → Directive → List (List ℕ) → ℕ → Bool
uses_unknown lines directive fields n =
    list_any (λ k. is_unknown lines (field_kind directive k) (field fields k)) (range_with_len 1 n)

-- the rules that a line with the right count of fields breaks among these lines before it and among
-- all lines
unfoldable pub breaks_counted : List (List (List ℕ)) → List (List (List ℕ)) → Directive
    → List (List ℕ) → ℕ → Bool
breaks_counted before all directive fields number =
    ((number == 6) && (is_definition fields && list_any (defines (field fields 1)) before))
    || ((number == 7) && uses_unknown all directive fields (length fields - 1))
    || ((number == 9) && (is_single fields && list_any (is_single_of (field fields 0)) before))

-- the same of a line with this directive; with a wrong count of fields it breaks none of them
unfoldable pub breaks_among : List (List (List ℕ)) → List (List (List ℕ)) → Option Directive
    → List (List ℕ) → ℕ → Bool
breaks_among before all None fields number = false
breaks_among before all (Some directive) fields number =
    has_count directive (length fields) && breaks_counted before all directive fields number

-- the rules that a line breaks, by its number: line 1 none but its own
unfoldable pub breaks_line : List (List (List ℕ)) → List (List (List ℕ)) → ℕ → List (List ℕ) → ℕ
    → Bool
breaks_line before all line fields number =
    breaks_alone (version_of all) line fields number
    || (not (line == 1) && breaks_among before all (directive_among all fields) fields number)

-- the rules that the lines break; an empty text breaks 1 on line 1
unfoldable pub line_rules : List (List (List ℕ)) → Rules
line_rules lines line number =
    (nat_lt 0 line && nat_le line (length lines)
    && breaks_line (take (line - 1) lines) lines line (line_at lines (line - 1)) number)
    || ((length lines == 0) && (line == 1) && (number == 1))
