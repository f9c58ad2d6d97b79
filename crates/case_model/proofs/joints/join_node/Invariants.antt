use Rattle.case_model.specs.Joints.{IsJoinedTo}
use Rattle.case_model.proofs.joints.join_node.Given as goal

abbrev pub invariant-loop-index : goal.invariant-loop-index
invariant-loop-index l = IsJoinedTo l.mesh l.node l.index l.joints
