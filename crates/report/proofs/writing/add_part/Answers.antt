use Rattle.report.proofs.PlaceLines.{part_pieces}
use Rattle.report.specs.Parts.{pipe_lines}
use Rattle.report.specs.Reportable.{extremes_of}
use Rattle.surge_io.proofs.Chains.{has_added, stopped, then_added}
use Rattle.report.proofs.writing.add_part.Goals as goal

pub returns-in_err-add_nodes : goal.returns-in_err-add_nodes
returns-in_err-add_nodes g c =
    let run = c.args.run.now in
    let extremes = extremes_of run.mesh.now run.fold.now in
    stopped (pipe_lines c.args.part run.case.now run.mesh.now extremes) (part_pieces c.args.part run.case.now run.mesh.now extremes) c.from_residual.ensures.0 c.in_err-add_nodes.ensures

pub returns : goal.returns
returns g c =
    let run = c.args.run.now in
    then_added (part_pieces c.args.part run.case.now run.mesh.now (extremes_of run.mesh.now run.fold.now)) (has_added c.in_ok-add_nodes.ensures) c.add_pipes.ensures
