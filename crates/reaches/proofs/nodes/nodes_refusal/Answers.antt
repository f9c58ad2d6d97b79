use Rattle.case_model.specs.Sets.{any_below}
use Rattle.case_model.specs.Refusals.{node_rules}
use Rattle.reaches.proofs.Least.{least_none, least_more}
use Rattle.reaches.proofs.nodes.nodes_refusal.Goals as goal

pub loop-node-init : goal.loop-node-init
loop-node-init c = least_none (node_rules c.args.decided.now.case.now)

pub loop-node-preserved : goal.loop-node-preserved
loop-node-preserved c =
    let rules = node_rules c.args.decided.now.case.now in
    let i = c.loop-node.node in
    least_more rules i c.lesser-least.result (c.lesser-least.ensures (any_below rules i) (rules i) c.loop-node.invariant c.node_refusal.ensures)
