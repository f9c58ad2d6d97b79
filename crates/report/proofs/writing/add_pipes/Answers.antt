use Rattle.std.proofs.Common.{ap, arith, length, refl}
use Rattle.report.specs.Parts.{lines_of_pipe}
use Rattle.report.specs.Reportable.{extremes_of}
use Rattle.surge_io.proofs.Chains.{all_indexes, next_index, stopped_index}
use Rattle.report.proofs.writing.add_pipes.Goals as goal

pub returns-in_err-add_pipe : goal.returns-in_err-add_pipe
returns-in_err-add_pipe g c =
    stopped_index (lines_of_pipe c.args.part c.args.run.now.case.now c.args.run.now.mesh.now (extremes_of c.args.run.now.mesh.now c.args.run.now.fold.now)) c.loop-p.p (length c.args.run.now.mesh.now.pipes) (omega (arith, ap length c.as_slice-p-end.ensures)) refl c.from_residual.ensures.0 c.loop-p.invariant c.in_err-add_pipe.ensures

pub loop-p-preserved : goal.loop-p-preserved
loop-p-preserved g c = next_index (lines_of_pipe c.args.part c.args.run.now.case.now c.args.run.now.mesh.now (extremes_of c.args.run.now.mesh.now c.args.run.now.fold.now)) c.loop-p.p refl c.loop-p.invariant c.in_ok-add_pipe.ensures

pub returns : goal.returns
returns g c = all_indexes (lines_of_pipe c.args.part c.args.run.now.case.now c.args.run.now.mesh.now (extremes_of c.args.run.now.mesh.now c.args.run.now.fold.now)) c.loop-p.p (length c.args.run.now.mesh.now.pipes) (omega (arith, ap length c.as_slice-p-end.ensures)) c.loop-p.invariant
