-- What the field of a single directive gives.
use Rattle.std.specs.Prelude.{ℕ, ℤ, Option, Some, None, unwrap_or, List}
use Rattle.case_model.specs.declared.cases.Friction.{Friction}
use Rattle.case_model.specs.declared.cases.Friction.TheVariants.{Explicit}
use Rattle.case_lines.specs.declared.quantities.Quantity.{Quantity}
use Rattle.case_lines.specs.Quantities.{amount}
use Rattle.case_lines.specs.Words.{friction_of}

abbrev pub amount_by : Quantity → ℤ → Option (List ℕ) → ℤ
amount_by quantity default (Some text) = amount quantity text
amount_by quantity default None = default

abbrev pub friction_told : Option (List ℕ) → Friction
friction_told (Some text) = unwrap_or (friction_of text) Explicit
friction_told None = Explicit
