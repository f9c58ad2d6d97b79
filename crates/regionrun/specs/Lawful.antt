-- What holds of a layout of the mesh of an accepted case, in one record.
use Rattle.std.specs.Prelude.{◌≡◌, ℕ, ◌*◌, ◌<◌, ◌≤◌}
use Rattle.case_model.specs.declared.cases.ProbeAt.{ProbeAt}
use Rattle.case_model.specs.declared.meshes.Mesh.{Mesh}
use Rattle.case_model.specs.Mesh.{IsMesh, IsNumbered}
use Rattle.case_model.specs.PlaceNumbers.{number_of, IsOn, place_at}
use Rattle.regions.specs.declared.shapes.Layout.{Layout}
use Rattle.regions.specs.Blocks.{AreWritten}
use Rattle.regions.specs.Cuts.{IsLimited}
use Rattle.regions.specs.LaidOut.{IsLaidOut}
use Rattle.regions.specs.Needs.{AreEnough}
use Rattle.regions.specs.Regions.{IsPartition, IsWhole}
use Rattle.regions.specs.Sides.{IsWired, AreMutual, AreOrdered}
use Rattle.regions.specs.Touching.{AreTouching}

-- numbers and places of the mesh tell one another
pub record AreTold (mesh : Mesh) : Type 0 where
  pub place : (at : ProbeAt) → IsOn mesh at → place_at mesh (number_of mesh at) ≡ at
  pub below : (at : ProbeAt) → IsOn mesh at → number_of mesh at < mesh.places
  pub on : (k : ℕ) → k < mesh.places → IsOn mesh (place_at mesh k)
  pub number : (k : ℕ) → k < mesh.places → number_of mesh (place_at mesh k) ≡ k

-- all laws of a layout and its mesh
pub record IsLawful (layout : Layout) (mesh : Mesh) : Type 0 where
  pub laid_out : IsLaidOut layout mesh
  pub good : IsMesh mesh
  pub numbered : IsNumbered mesh
  pub limited : IsLimited mesh
  pub wired : IsWired mesh
  pub rising : AreOrdered mesh
  pub told : AreTold mesh
  pub whole : IsWhole layout
  pub partition : IsPartition layout mesh
  pub sides : AreMutual layout mesh
  pub touching : AreTouching layout mesh
  pub written : AreWritten layout mesh
  pub enough : AreEnough layout mesh
  pub steps : 1 ≤ layout.windows * layout.window
