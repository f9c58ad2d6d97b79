use Rattle.std.proofs.Common.{◌≡◌, ap, arith, length}
use Rattle.report.specs.MeshText.{division_line}
use Rattle.surge_io.proofs.Chains.{all_indexes, next_index, stopped_index}
use Rattle.report.proofs.mesh_writing.add_divisions.Goals as goal

pub returns-in_err-add : goal.returns-in_err-add
returns-in_err-add g c =
    let e : c.as_bytes.result.now ≡ (division_line c.args.case.now c.args.mesh.now) c.loop-p.p = cc in
    stopped_index (division_line c.args.case.now c.args.mesh.now) c.loop-p.p (length c.args.case.now.pipes) (omega (arith, ap length c.as_slice-p-end.ensures)) e c.from_residual.ensures.0 c.loop-p.invariant c.in_err-add.ensures.added

pub loop-p-preserved : goal.loop-p-preserved
loop-p-preserved g c =
    let e : c.as_bytes.result.now ≡ (division_line c.args.case.now c.args.mesh.now) c.loop-p.p = cc in
    next_index (division_line c.args.case.now c.args.mesh.now) c.loop-p.p e c.loop-p.invariant c.in_ok-add.ensures.added

pub returns : goal.returns
returns g c = all_indexes (division_line c.args.case.now c.args.mesh.now) c.loop-p.p (length c.args.case.now.pipes) (omega (arith, ap length c.as_slice-p-end.ensures)) c.loop-p.invariant
