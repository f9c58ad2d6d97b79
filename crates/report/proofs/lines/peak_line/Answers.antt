use Rattle.std.proofs.Common.{◌∷◌, [], codes, arith}
use Rattle.std.proofs.lemmas.Grind.{common_steps}
use Rattle.surge_io.specs.Fields.{count_text}
use Rattle.report.specs.Lines.{head_text, label}
use Rattle.report.specs.Report.{peak_line}
use Rattle.report.proofs.Runs.{four_runs}
use Rattle.report.proofs.lines.peak_line.Goals as goal

pub returns : goal.returns
unfolding peak_line
returns c =
    let e = four_runs (codes "peak") (codes "low") (label c.args.case.now c.args.high) (head_text c.args.greatest.now.max ∷ count_text c.args.greatest.now.max_step ∷ [])
    (label c.args.case.now c.args.low) (head_text c.args.least.now.min ∷ count_text c.args.least.now.min_step ∷ []) in
    grind (arith, common_steps, e)
