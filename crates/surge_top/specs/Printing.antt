-- What is printed of the rows of an accepted case.
use Rattle.std.specs.Prelude.{ℕ, List}
use Rattle.case_model.specs.declared.cases.Case.{Case}
use Rattle.case_model.specs.declared.meshes.Mesh.{Mesh}
use Rattle.surge_top.specs.Answer.{peak_of_rows, rows_text}
use Rattle.surge_top.specs.declared.folding.Printed.{Printed}
use Rattle.surge_top.specs.declared.folding.Printed.TheVariants.{Report, Peak}

abbrev pub printed_text : Printed → Case → Mesh → List ℕ
printed_text Report case mesh = rows_text case mesh
printed_text Peak case mesh = peak_of_rows case mesh
