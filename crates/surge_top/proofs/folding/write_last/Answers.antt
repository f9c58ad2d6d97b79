use Rattle.std.proofs.Common.{subst}
use Rattle.scheme.specs.Laws.{meaning_of}
use Rattle.surge_io.specs.Writings.{IsWritten}
use Rattle.surge_top.specs.Answer.{peak_of_rows}
use Rattle.surge_top.proofs.Reporting.{peak_is}
use Rattle.surge_top.proofs.folding.write_last.Goals as goal
use Rattle.scheme.proofs.Starting.{mesh_of_law}

pub returns : goal.returns
unfolding peak_of_rows
returns g c =
    let case = c.args.case.now in
    let mesh = c.args.mesh.now in
    let law = meaning_of case mesh in
    let e = peak_is law case mesh c.args.fold.now (mesh_of_law case mesh) c.folds_tell_rows.ensures.extreme c.peak_is_of_pipes.ensures.text c.requires.told c.requires.clear c.requires.accepted c.sizes.ensures.small c.requires.given in
    subst (λ text. IsWritten g.K.Sink.held g.K.Sink.faults c.write_peak.result c.args.out.now c.write_peak.new.out text) e c.write_peak.ensures
