use Rattle.std.proofs.Common.{subst}
use Rattle.case_model.specs.declared.cases.Node.{Node}
use Rattle.case_model.specs.Parts.{no_node}
use Rattle.case_model.specs.Division.{node_ends}
use Rattle.case_model.specs.Sets.{on_line}
use Rattle.case_model.specs.Bounds.{LeastOrNone}
use Rattle.case_model.specs.Refusals.{breaks_node}
use Rattle.reaches.proofs.Read.{read_as}
use Rattle.reaches.proofs.nodes.node_refusal.Goals as goal

pub returns : goal.returns
returns c =
    let case = c.args.decided.now.case.now in
    let n = c.index-as_slice-node.result in
    let j = rw c.requires.ends at c.judge.ensures in
    subst (λ (m : Node). LeastOrNone (on_line m.line (breaks_node case m (node_ends case c.args.node))) c.on.result)
    (read_as c.as_slice.result.now case.nodes c.args.node n no_node c.index-as_slice-node.is c.as_slice.ensures c.requires.there)
    (c.on.ensures (breaks_node case n (node_ends case c.args.node)) j)
