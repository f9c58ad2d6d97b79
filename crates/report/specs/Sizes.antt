-- How large an accepted case is at most.
use Rattle.std.specs.Prelude.{◌+◌, ◌*◌, ◌/◌, ◌≤◌, ◌≡◌, length}
use Rattle.case_model.specs.declared.cases.Case.{Case}
use Rattle.case_model.specs.declared.cases.TheConstants.{MOST_PROBES}
use Rattle.case_model.specs.declared.meshes.Mesh.{Mesh}
use Rattle.case_model.specs.Mesh.{places_before}

-- its steps, nodes, pipes, places, probes and samples; the mesh has as many nodes and pipes as the
-- case
pub record IsSmall (case : Case) (mesh : Mesh) : Type 0 where
  pub steps : case.steps ≤ 100_000_000
  pub same_nodes : length mesh.ends ≡ length case.nodes
  pub nodes : length mesh.ends ≤ 4_096
  pub same_pipes : length mesh.pipes ≡ length case.pipes
  pub pipes : length mesh.pipes ≤ 4_096
  pub places : places_before mesh (length mesh.pipes) ≤ 400_000
  pub numbers : mesh.places ≤ 400_000
  pub probes : length case.probes ≤ MOST_PROBES
  pub samples : length case.probes * (case.steps / case.every + 1) ≤ 4_000_000
