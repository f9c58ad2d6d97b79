use Rattle.report.proofs.Fitting.{reportable}
use Rattle.report.proofs.writing.limits.Goals as goal

pub returns : goal.returns
returns c =
    reportable c.args.run.now.case.now c.args.run.now.mesh.now c.args.run.now.fold.now c.requires.accepted c.sizes.ensures.small c.sizes.ensures.probes c.requires.given
