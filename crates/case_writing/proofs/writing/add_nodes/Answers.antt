use Rattle.std.proofs.Common.{arith, ap, ◌∙◌}
use Rattle.case_writing.specs.CaseText.{node_text}
use Rattle.surge_io.proofs.Chains.{all_items, next_item, stopped_item}
use Rattle.case_writing.proofs.writing.add_nodes.Goals as goal

pub returns-in_err-add : goal.returns-in_err-add
returns-in_err-add g c =
    stopped_item (node_text c.args.tables.now) c.args.nodes.now c.loop-node.node-index c.node-item.result (omega arith) (c.as_bytes.ensures ∙ c.node_line-line.ensures ∙ ap (node_text c.args.tables.now) c.node-item.is) c.from_residual.ensures.0 c.loop-node.invariant c.in_err-add.ensures.added

pub loop-node-preserved : goal.loop-node-preserved
loop-node-preserved g c =
    next_item (node_text c.args.tables.now) c.args.nodes.now c.loop-node.node-index c.node-item.result (omega arith) (c.as_bytes.ensures ∙ c.node_line-line.ensures ∙ ap (node_text c.args.tables.now) c.node-item.is) c.loop-node.invariant c.in_ok-add.ensures.added

pub returns : goal.returns
returns g c = all_items (node_text c.args.tables.now) c.args.nodes.now c.loop-node.node-index (omega arith) c.loop-node.invariant
