use Rattle.std.proofs.Common.{◌≡◌, ap, arith, length}
use Rattle.report.specs.Parts.{node_line}
use Rattle.report.specs.Reportable.{extremes_of}
use Rattle.surge_io.proofs.Chains.{all_indexes, next_index, stopped_index}
use Rattle.report.proofs.writing.add_nodes.Goals as goal

pub returns-in_err-add : goal.returns-in_err-add
returns-in_err-add g c =
    let e : c.as_bytes.result.now ≡ (node_line c.args.part c.args.run.now.case.now (extremes_of c.args.run.now.mesh.now c.args.run.now.fold.now)) c.loop-k.k = cc in
    stopped_index (node_line c.args.part c.args.run.now.case.now (extremes_of c.args.run.now.mesh.now c.args.run.now.fold.now)) c.loop-k.k (length c.args.run.now.mesh.now.ends) (omega (arith, ap length c.as_slice-k-end.ensures)) e c.from_residual.ensures.0 c.loop-k.invariant c.in_err-add.ensures.added

pub loop-k-preserved : goal.loop-k-preserved
loop-k-preserved g c =
    let e : c.as_bytes.result.now ≡ (node_line c.args.part c.args.run.now.case.now (extremes_of c.args.run.now.mesh.now c.args.run.now.fold.now)) c.loop-k.k = cc in
    next_index (node_line c.args.part c.args.run.now.case.now (extremes_of c.args.run.now.mesh.now c.args.run.now.fold.now)) c.loop-k.k e c.loop-k.invariant c.in_ok-add.ensures.added

pub returns : goal.returns
returns g c = all_indexes (node_line c.args.part c.args.run.now.case.now (extremes_of c.args.run.now.mesh.now c.args.run.now.fold.now)) c.loop-k.k (length c.args.run.now.mesh.now.ends) (omega (arith, ap length c.as_slice-k-end.ensures)) c.loop-k.invariant
