use Rattle.std.proofs.Common.{◌≡◌, ◌<◌, [], get_or, length, ap, subst, sym, ◌∙◌, arith}
use Rattle.std.proofs.lemmas.List.{get_or_read}
use Rattle.case_model.specs.Joints.{no_end}
use Rattle.case_model.specs.Mesh.{ends_of}
use Rattle.case_model.proofs.Joining.{joined_more, joined_node}
use Rattle.case_model.proofs.joints.join_node.Goals as goal

pub loop-index-preserved : goal.loop-index-preserved
loop-index-preserved c =
    let mesh = c.args.mesh.now in
    let n = c.args.node in
    let m = c.loop-index.index in
    let all = c.as_slice.result.now in
    let row = c.index-as_slice-node.result in
    let inside : n < length all = subst (λ xs. n < length xs) (sym c.as_slice.ensures) c.requires.there in
    let same : c.as_slice-ends.result.now ≡ ends_of mesh n = c.as_slice-ends.ensures ∙ get_or_read all n row inside c.index-as_slice-node.is [] ∙ ap (λ xs. get_or xs n []) c.as_slice.ensures in
    let within : m < length (ends_of mesh n) = subst (λ xs. m < length xs) same c.loop-index-test.true in
    joined_more mesh n m (length c.as_slice-nodes.result.now) (get_or c.as_slice-ends.result.now m no_end) c.loop-index.joints c.join_end.new.joints (ap length c.as_slice-nodes.ensures)
    c.requires.there within (ap (λ xs. get_or xs m no_end) same) c.join_end.ensures.each c.join_end.ensures.own c.join_end.ensures.others c.loop-index.invariant

pub returns : goal.returns
returns c =
    let mesh = c.args.mesh.now in
    let n = c.args.node in
    let all = c.as_slice.result.now in
    let row = c.index-as_slice-node.result in
    let inside : n < length all = subst (λ xs. n < length xs) (sym c.as_slice.ensures) c.requires.there in
    let same : c.as_slice-ends.result.now ≡ ends_of mesh n = c.as_slice-ends.ensures ∙ get_or_read all n row inside c.index-as_slice-node.is [] ∙ ap (λ xs. get_or xs n []) c.as_slice.ensures in
    let whole = ap length same in
    joined_node mesh n c.loop-index.index c.loop-index.joints (omega (arith, whole)) c.loop-index.invariant
