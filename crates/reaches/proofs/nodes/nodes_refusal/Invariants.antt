use Rattle.case_model.specs.Sets.{any_below}
use Rattle.case_model.specs.Bounds.{LeastOrNone}
use Rattle.case_model.specs.Refusals.{node_rules}
use Rattle.reaches.proofs.nodes.nodes_refusal.Given as goal

abbrev pub invariant-loop-node : goal.invariant-loop-node
invariant-loop-node l = LeastOrNone (any_below (node_rules l.decided.case.now) l.node) l.least
