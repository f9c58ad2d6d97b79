use Rattle.std.proofs.Common.{◌≡◌, ◌∙◌, ◌++◌, ap, refl}
use Rattle.report.specs.MeshText.{division_lines, mesh_text, window_line}
use Rattle.surge_io.proofs.Chains.{has_added, stopped, then_added}
use Rattle.report.proofs.mesh_writing.add_mesh.Goals as goal

pub returns-in_err-add_divisions : goal.returns-in_err-add_divisions
unfolding mesh_text
returns-in_err-add_divisions g c = stopped (window_line c.args.layout.now) refl c.from_residual.ensures.0 c.in_err-add_divisions.ensures

pub returns : goal.returns
unfolding mesh_text
returns g c =
    let e : c.as_bytes.result.now ≡ window_line c.args.layout.now = c.as_bytes.ensures ∙ c.window_line-line.ensures in
    then_added (ap (λ line. division_lines c.args.case.now c.args.mesh.now ++ line) e) (has_added c.in_ok-add_divisions.ensures) c.add.ensures.added
