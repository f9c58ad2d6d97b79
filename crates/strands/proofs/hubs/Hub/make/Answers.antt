use Rattle.std.proofs.Common.{length, refl, subst}
use Rattle.case_model.specs.Mesh.{IsNumbered, ends_of}
use Rattle.case_model.specs.declared.meshes.Mesh.{Mesh}
use Rattle.strands.proofs.Nodes.{new-hub}
use Rattle.strands.specs.Hubs.{AreNewSpokes, IsHubNode}
use Rattle.strands.specs.declared.hubs.Hub.{Hub}
use Rattle.strands.proofs.hubs.Hub.make.Goals as goal

pub returns : goal.returns
returns g c =
    let law = g.L.Law.meaning c.args.law.now in
    let w = c.args.window in
    let node = c.args.node in
    let hub : Hub = record {
      node = node;
      state = c.start_node.result;
      spokes =
          c.in_ok-spokes.spokes;
    } in
    new-hub law w node hub refl c.start_node.ensures
    (subst IsNumbered c.requires.mesh c.requires.numbered)
    (subst (λ (m : Mesh). IsHubNode m w node) c.requires.mesh c.requires.node)
    (subst (λ (m : Mesh). AreNewSpokes law w (ends_of m node) (length (ends_of m node))
    hub.spokes.items) c.requires.mesh c.in_ok-spokes.ensures)
