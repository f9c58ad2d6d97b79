use Rattle.std.proofs.Common.{◌≡◌, arith, ◌+◌}
use Rattle.case_model.specs.Mesh.{reaches}
use Rattle.report.specs.Parts.{lines_of_pipe, pipe_line}
use Rattle.report.specs.Reportable.{extremes_of}
use Rattle.surge_io.proofs.Chains.{all_indexes, next_index, stopped_index}
use Rattle.report.proofs.writing.add_pipe.Goals as goal

pub returns-in_err-add : goal.returns-in_err-add
unfolding lines_of_pipe
returns-in_err-add g c =
    let e : c.as_bytes.result.now ≡ (pipe_line c.args.part c.args.run.now.case.now (extremes_of c.args.run.now.mesh.now c.args.run.now.fold.now) c.args.pipe) c.loop-i.i = cc in
    stopped_index (pipe_line c.args.part c.args.run.now.case.now (extremes_of c.args.run.now.mesh.now c.args.run.now.fold.now) c.args.pipe) c.loop-i.i (reaches c.args.run.now.mesh.now c.args.pipe + 1) (omega arith) e c.from_residual.ensures.0 c.loop-i.invariant c.in_err-add.ensures.added

pub loop-i-preserved : goal.loop-i-preserved
loop-i-preserved g c =
    let e : c.as_bytes.result.now ≡ (pipe_line c.args.part c.args.run.now.case.now (extremes_of c.args.run.now.mesh.now c.args.run.now.fold.now) c.args.pipe) c.loop-i.i = cc in
    next_index (pipe_line c.args.part c.args.run.now.case.now (extremes_of c.args.run.now.mesh.now c.args.run.now.fold.now) c.args.pipe) c.loop-i.i e c.loop-i.invariant c.in_ok-add.ensures.added

pub returns : goal.returns
unfolding lines_of_pipe
returns g c = all_indexes (pipe_line c.args.part c.args.run.now.case.now (extremes_of c.args.run.now.mesh.now c.args.run.now.fold.now) c.args.pipe) c.loop-i.i (reaches c.args.run.now.mesh.now c.args.pipe + 1) (omega arith) c.loop-i.invariant
