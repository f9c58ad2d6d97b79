use Rattle.std.proofs.Common.{◌≡◌, ◌∙◌}
use Rattle.report.specs.Report.{peak_text}
use Rattle.report.specs.Reportable.{extremes_of}
use Rattle.report.proofs.writing.add_peak.Goals as goal

pub returns : goal.returns
returns g c =
    let run = c.args.run.now in
    let e : c.as_bytes.result.now ≡ peak_text run.case.now run.mesh.now (extremes_of run.mesh.now run.fold.now) = c.as_bytes.ensures ∙ c.line_of_peak-line.ensures in
    rw e at c.add.ensures.added
