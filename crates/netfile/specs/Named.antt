-- Lines whose new names are there and have at most 32 bytes, and whose places are on a mesh of
-- accepted size.
use Rattle.std.specs.Prelude.{ℕ, ◌≤◌, ◌≡◌, nat_lt, true, Some, unsigned_abs, List, length}
use Rattle.case_lines.specs.declared.words.Directive.TheVariants.{OfProbe}
use Rattle.case_lines.specs.declared.quantities.Quantity.TheVariants.{PipePlace}
use Rattle.case_lines.specs.Quantities.{amount}
use Rattle.case_lines.specs.Fields.{field}
use Rattle.case_rules.specs.Said.{directive_said, named_by, is_some_part}

abbrev pub IsNamed : List (List ℕ) → Type 0
IsNamed fields =
    is_some_part (named_by (directive_said fields)) ≡ true
    → (nat_lt 1 (length fields) ≡ true) × (length (field fields 1) ≤ 32)

abbrev pub IsPlaced : List (List ℕ) → Type 0
IsPlaced fields =
    directive_said fields ≡ Some OfProbe → unsigned_abs (amount PipePlace (field fields 2)) ≤ 65_536
