use Rattle.std.proofs.Common.{◌≡◌, ◌<◌, ◌∙◌, List, [], length, get_or, ap, subst}
use Rattle.std.proofs.Common.{arith, false}
use Rattle.std.proofs.lemmas.List.{get_or_default, get_or_read}
use Rattle.case_model.specs.declared.meshes.End.{End}
use Rattle.case_model.specs.Mesh.{ends_of}
use Rattle.strands.proofs.Nodes.{new-more}
use Rattle.strands.specs.Spokes.{IsNewSpoke}
use Rattle.strands.proofs.hubs.make_spokes.Goals as goal

pub loop-end-preserved : goal.loop-end-preserved
loop-end-preserved g c =
    let law = g.L.Law.meaning c.args.law.now in
    let w = c.args.window in
    let i = c.loop-end.end-index in
    let x = c.in_ok-make.field-0 in
    let none : End = record { pipe = 0; at_last = false } in
    let ends = c.as_slice-ends.result.now in
    let there : c.args.node < length c.args.mesh.now.ends = c.requires.node.there in
    let e : ends ≡ ends_of c.args.mesh.now c.args.node =
    c.as_slice-ends.ensures
    ∙ get_or_read c.as_slice.result.now c.args.node c.index-as_slice-node.result
    (omega (arith, ap length c.as_slice.ensures)) c.index-as_slice-node.is []
    ∙ ap (λ (es : List (List End)). get_or es c.args.node []) c.as_slice.ensures in
    let next = new-more law w i (ends_of c.args.mesh.now c.args.node) c.loop-end.spokes.items x
    c.loop-end.invariant
    (λ d. subst (λ y. IsNewSpoke law w y x) {x = get_or ends i none}
    (get_or_default ends i none d c.loop-end-test.true ∙ ap (λ (es : List End). get_or es i d) e)
    c.in_ok-make.ensures) in
    rw (c.in_ok-push.ensures.items) next
