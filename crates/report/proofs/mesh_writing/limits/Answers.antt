use Rattle.report.proofs.Meshed.{meshed}
use Rattle.report.proofs.mesh_writing.limits.Goals as goal

pub returns : goal.returns
returns c =
    meshed c.args.case.now c.args.mesh.now c.args.layout.now c.accepted_cases_are_kept.ensures.kept c.accepted_cases_are_kept.ensures.parts c.layouts_are_sound.ensures.whole c.requires
