-- The lines of a case text by their fields, and what they define.
use Rattle.std.specs.Prelude.{ℕ, ◌==◌, ◌&&◌, nat_lt, Bool, true, false, Option, Some, None, List}
use Rattle.std.specs.Prelude.{[], length, slice_index_or}
use Rattle.std.specs.Str.{bytes_eq}
use denote.Enum.Bare.{sameb}
use Rattle.case_model.specs.declared.cases.TableKind.{TableKind}
use Rattle.case_model.specs.declared.cases.TableKind.TheVariants.{Heads, Flows, Openings, Speeds}
use Rattle.case_model.specs.declared.cases.TableKind.TheVariants.{Curve, Gas}
use Rattle.case_lines.specs.declared.words.Directive.{Directive}
use Rattle.case_lines.specs.declared.words.Directive.TheVariants.{OfSingle, OfTable, OfNode, OfPipe}
use Rattle.case_lines.specs.Words.{directive_of}
use Rattle.case_lines.specs.Fields.{field, heading_version}
use Rattle.case_rules.specs.declared.parts.Part.{Part}
use Rattle.case_rules.specs.declared.parts.Part.TheVariants.{HeadTable, FlowTable, OpeningTable}
use Rattle.case_rules.specs.declared.parts.Part.TheVariants.{SpeedTable, CurveTable, GasTable}
use Rattle.case_rules.specs.declared.parts.Part.TheVariants.{ANode, APipe}
use Rattle.case_rules.specs.contracts.parts.Part.{the_type}

-- a line by its place, counted from 0; one without fields where there is none
abbrev pub line_at : List (List (List ℕ)) → ℕ → List (List ℕ)
line_at lines k = slice_index_or lines k []

-- the version of the case text, which its first line decides
abbrev pub version_of : List (List (List ℕ)) → ℕ
version_of lines = heading_version (line_at lines 0)

-- the directive of a line, in whatever version, if it has one
unfoldable pub directive_said : List (List ℕ) → Option Directive
directive_said fields = directive_of (field fields 0)

-- the kind of part that a table of a kind is
abbrev pub table_part : TableKind → Part
table_part Heads = HeadTable
table_part Flows = FlowTable
table_part Openings = OpeningTable
table_part Speeds = SpeedTable
table_part Curve = CurveTable
table_part Gas = GasTable

-- what a directive names, if anything
abbrev pub named_by : Option Directive → Option Part
named_by None = None
named_by (Some (OfTable kind)) = Some (table_part kind)
named_by (Some (OfNode node)) = Some ANode
named_by (Some OfPipe) = Some APipe
named_by _ = None

-- whether this is a part of a kind
abbrev pub same_part : Part → Part → Bool
same_part own part = sameb the_type own part

abbrev pub has_part : Part → Option Part → Bool
has_part part (Some own) = same_part own part
has_part part None = false

abbrev pub is_some_part : Option Part → Bool
is_some_part (Some own) = true
is_some_part None = false

-- whether a line defines a name: its directive does so, and it has a second field
unfoldable pub is_definition : List (List ℕ) → Bool
is_definition fields = is_some_part (named_by (directive_said fields)) && nat_lt 1 (length fields)

-- whether a line defines this name
unfoldable pub defines : List ℕ → List (List ℕ) → Bool
defines name fields = is_definition fields && bytes_eq (field fields 1) name

-- whether a line defines this name for a part of this kind
unfoldable pub defines_part : Part → List ℕ → List (List ℕ) → Bool
defines_part part name fields =
    has_part part (named_by (directive_said fields)) && nat_lt 1 (length fields)
    && bytes_eq (field fields 1) name

abbrev pub is_single_directive : Option Directive → Bool
is_single_directive (Some (OfSingle single)) = true
is_single_directive _ = false

-- whether a line has a single directive, and this one
unfoldable pub is_single : List (List ℕ) → Bool
is_single fields = is_single_directive (directive_said fields)

unfoldable pub is_single_of : List ℕ → List (List ℕ) → Bool
is_single_of word fields = is_single fields && bytes_eq (field fields 0) word
