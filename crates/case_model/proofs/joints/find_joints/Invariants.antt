use Rattle.case_model.specs.Joints.{IsJoinedTo}
use Rattle.case_model.proofs.joints.find_joints.Given as goal

abbrev pub invariant-loop-node : goal.invariant-loop-node
invariant-loop-node l = IsJoinedTo l.mesh l.node 0 l.joints.items
