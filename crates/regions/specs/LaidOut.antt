-- Layouts that are cuts of the mesh of an accepted case.
use Rattle.std.specs.Prelude.{◌≡◌, ℕ, ◌≤◌}
use Rattle.case_model.specs.declared.cases.Case.{Case}
use Rattle.case_model.specs.declared.meshes.Mesh.{Mesh}
use Rattle.case_model.specs.Accepted.{IsAccepted}
use Rattle.regions.specs.declared.shapes.TheConstants.{WIDEST_WINDOW}
use Rattle.regions.specs.declared.shapes.Layout.{Layout}
use Rattle.regions.specs.Layouts.{layout_of}

-- the layout is a cut of this mesh for the steps of this case; division accepts the case, and the
-- mesh is its own
pub record IsCutFor (case : Case) (layout : Layout) (mesh : Mesh) : Type 0 where
  pub accepted : IsAccepted case mesh
  pub wish : ℕ
  pub some : 1 ≤ wish
  pub few : wish ≤ WIDEST_WINDOW
  pub layout_is : layout ≡ layout_of case.steps mesh wish

-- the layout is a cut of this mesh, for some case that division accepts with this mesh
pub record IsLaidOut (layout : Layout) (mesh : Mesh) : Type 0 where
  pub case : Case
  pub cut : IsCutFor case layout mesh

-- the layout is a cut of some mesh
pub record IsLayout (layout : Layout) : Type 0 where
  pub mesh : Mesh
  pub laid_out : IsLaidOut layout mesh
