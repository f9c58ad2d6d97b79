use Rattle.std.proofs.Common.{◌∙◌, List, ap, false, subst, sym}
use Rattle.std.specs.Prelude.{slice_index_or}
use Rattle.regions.specs.declared.shapes.Shape.{Shape}
use Rattle.regions.specs.declared.shapes.Shape.TheVariants.{OfNode}
use Rattle.regionrun.proofs.Flags.{flags-loaded}
use Rattle.regionrun.proofs.Made.{hub-node}
use Rattle.regionrun.specs.Surveys.{HasSpans}
use Rattle.strands.specs.Hubs.{spokes_of}
use Rattle.regionrun.proofs.making.make_body.Goals as goal

pub make-requires-clause-node : goal.make-requires-clause-node
make-requires-clause-node g c κs within =
    let survey = c.args.survey.now in
    let shape = ap (λ (xs : List Shape). slice_index_or xs c.args.number (OfNode 0))
    (sym c.as_slice.ensures) ∙ c.in-OfNode.is in
    hub-node survey.layout.now survey.mesh.now c.in-OfNode.node c.standing.ensures.lawful
    (subst (HasSpans survey.mesh.now survey.layout.now.window) shape c.standing.ensures.has)

pub returns-in_ok-hub-in-OfNode-clause-bare : goal.returns-in_ok-hub-in-OfNode-clause-bare
returns-in_ok-hub-in-OfNode-clause-bare g c =
    flags-loaded (spokes_of c.in_ok-hub-in-OfNode.hub) false c.in_ok-hub-in-OfNode.ensures.bare
