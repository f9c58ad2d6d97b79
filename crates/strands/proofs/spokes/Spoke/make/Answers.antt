use Rattle.strands.proofs.Spoking.{new-spoke}
use Rattle.std.proofs.Common.{◌∙◌, ap}
use Rattle.case_model.specs.declared.meshes.Mesh.{Mesh}
use Rattle.case_model.specs.Mesh.{reaches}
use Rattle.strands.specs.Spokes.{end_place}
use Rattle.std.proofs.Common.{sym}
use Rattle.strands.proofs.spokes.Spoke.make.Goals as goal

pub returns : goal.returns
returns g c =
    let law = g.L.Law.meaning c.args.law.now in
    let end = c.args.end in
    let made = c.in_ok-spoke.ensures in
    new-spoke law c.args.window c.end-at.result c.place_of_end-place.result end c.in_ok-spoke.spoke
    c.put.new.self
    c.start_point.result made.0 made.1 made.2 (made.3 law (sym c.requires.mesh))
    c.put.ensures.put.same
    c.end-at.ensures
    (c.place_of_end-place.ensures.place
    ∙ ap (λ (m : Mesh). end_place end.at_last (reaches m end.pipe)) c.requires.mesh)
    c.start_point.ensures (c.put.ensures.holds law)
