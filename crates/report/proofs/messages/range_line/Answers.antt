use Rattle.std.proofs.Common.{◌∷◌, codes, arith}
use Rattle.std.proofs.lemmas.Grind.{common_steps}
use Rattle.case_model.specs.PlaceNumbers.{place_at}
use Rattle.surge_io.specs.Fields.{count_text}
use Rattle.report.specs.Lines.{label}
use Rattle.report.specs.Messages.{range_text}
use Rattle.surge_io.proofs.FieldTexts.{joined_fields}
use Rattle.report.proofs.messages.range_line.Goals as goal

pub returns : goal.returns
unfolding range_text
returns c =
    let e = joined_fields (codes "range") (count_text c.args.step ∷ label c.args.case.now (place_at c.args.mesh.now c.args.place)) in
    grind (arith, common_steps, e)
