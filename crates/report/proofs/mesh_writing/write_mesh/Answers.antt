use Rattle.surge_io.proofs.Chains.{front_of_text, has_added, whole_text}
use Rattle.report.proofs.mesh_writing.write_mesh.Goals as goal

pub returns-in_err-add_mesh : goal.returns-in_err-add_mesh
returns-in_err-add_mesh g c = front_of_text c.new-page.ensures.begins c.from_residual.ensures.0 c.in_err-add_mesh.ensures

pub returns : goal.returns
returns g c = whole_text c.new-page.ensures.begins (has_added c.in_ok-add_mesh.ensures) c.flush.ensures.finished
