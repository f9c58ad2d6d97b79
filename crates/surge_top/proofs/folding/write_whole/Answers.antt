use Rattle.std.proofs.Common.{subst}
use Rattle.scheme.specs.Laws.{meaning_of}
use Rattle.surge_io.specs.Writings.{IsWritten}
use Rattle.surge_top.specs.Answer.{rows_text}
use Rattle.surge_top.proofs.Reporting.{text_is}
use Rattle.surge_top.proofs.folding.write_whole.Goals as goal
use Rattle.scheme.proofs.Starting.{mesh_of_law}

pub returns : goal.returns
unfolding rows_text
returns g c =
    let case = c.args.case.now in
    let mesh = c.args.mesh.now in
    let law = meaning_of case mesh in
    let e = text_is law case mesh c.args.fold.now (mesh_of_law case mesh) c.folds_tell_rows.ensures.extreme c.folds_tell_rows.ensures.sample c.report_is_of_its_numbers.ensures c.requires.told c.requires.clear c.requires.accepted c.sizes.ensures.small c.sizes.ensures.probes c.requires.given in
    subst (λ text. IsWritten g.K.Sink.held g.K.Sink.faults c.write_report.result c.args.out.now c.write_report.new.out text) e c.write_report.ensures
