-- What an accepted case and its mesh fulfil: numbers within their limits, and the mesh of a
-- division that refuses nothing, in which rows can be computed.
use Rattle.std.specs.Prelude.{◌≡◌, ◌<◌, length}
use Rattle.case_model.specs.declared.cases.Case.{Case}
use Rattle.case_model.specs.declared.meshes.Mesh.{Mesh}
use Rattle.case_model.specs.Division.{mesh_of}
use Rattle.case_model.specs.Limits.{IsRead}
use Rattle.case_model.specs.Mesh.{IsMesh, IsNumbered}
use Rattle.case_model.specs.Refusals.{passes}
use Rattle.case_model.specs.Sets.{AreEmpty}

pub record IsAccepted (case : Case) (mesh : Mesh) : Type 0 where
  pub read : IsRead case
  pub divided : mesh ≡ mesh_of case
  pub kept : AreEmpty (passes case)
  pub good : IsMesh mesh
  pub numbered : IsNumbered mesh
  pub some : 0 < length case.pipes

-- a mesh that is that of some case which division accepts
pub record IsAcceptedMesh (mesh : Mesh) : Type 0 where
  pub case : Case
  pub accepted : IsAccepted case mesh
