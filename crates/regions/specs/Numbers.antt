-- What the code keeps of a pipe's cuts.
use Rattle.std.specs.Prelude.{◌≡◌, ℕ, ◌+◌, ◌≤◌, true, false, length}
use Rattle.case_model.specs.declared.meshes.Mesh.{Mesh}
use Rattle.case_model.specs.Mesh.{end_node}
use Rattle.regions.specs.declared.numbers.Cuts.{Cuts}
use Rattle.regions.specs.Layouts.{sections_at, seams_before, section_number}

-- the count of a pipe's sections, the nodes at its ends, and the numbers of its first seam and its
-- first section
pub record IsCutsOf (mesh : Mesh) (w p : ℕ) (cuts : Cuts) : Type 0 where
  pub count : cuts.count ≡ sections_at mesh w p
  pub first : cuts.first ≡ end_node mesh p false
  pub last : cuts.last ≡ end_node mesh p true
  pub seam : cuts.seam ≡ length mesh.ends + seams_before mesh w p
  pub section : cuts.section ≡ section_number mesh w p 0

-- all their numbers are small
pub record AreFew (cuts : Cuts) : Type 0 where
  pub some : 1 ≤ cuts.count
  pub seams : cuts.seam + cuts.count ≤ 1_000_000
  pub sections : cuts.section + cuts.count ≤ 1_000_000
