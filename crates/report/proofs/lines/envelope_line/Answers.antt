use Rattle.std.proofs.Common.{◌∷◌, [], codes, arith}
use Rattle.std.proofs.lemmas.Grind.{common_steps}
use Rattle.surge_io.specs.Fields.{count_text}
use Rattle.report.specs.Lines.{head_text, label}
use Rattle.report.specs.Report.{envelope_line}
use Rattle.surge_io.proofs.FieldTexts.{two_runs}
use Rattle.report.proofs.lines.envelope_line.Goals as goal

pub returns : goal.returns
unfolding envelope_line
returns c =
    let e = two_runs (codes "envelope") (label c.args.case.now c.args.at) (head_text c.args.extreme.now.max ∷ count_text c.args.extreme.now.max_step ∷ head_text c.args.extreme.now.min ∷ count_text c.args.extreme.now.min_step ∷ []) in
    grind (arith, common_steps, e)
