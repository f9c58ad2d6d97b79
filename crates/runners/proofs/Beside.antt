-- The neighbours of a strand in the tag of its run.
use Rattle.std.proofs.Common.{subst}
use Rattle.case_model.specs.Meaning.{Meaning}
use Rattle.case_model.specs.declared.meshes.Mesh.{Mesh}
use Rattle.regions.specs.LaidOut.{IsLaidOut}
use Rattle.runners.specs.Tags.{IsRunTag}
use Rattle.runners.specs.declared.tags.RunTag.{RunTag}

-- the layout is one of the law's mesh
pub laid-out : {L : Type 0} (meaning : L → Meaning) (tag : RunTag L) → IsRunTag meaning tag
    → IsLaidOut tag.layout.now (meaning tag.law.now).mesh
laid-out meaning tag is =
    let at : IsLaidOut tag.layout.now tag.mesh.now = record { case = tag.case.now; cut = is.cut } in
    subst (λ (m : Mesh). IsLaidOut tag.layout.now m) is.mesh_is at
