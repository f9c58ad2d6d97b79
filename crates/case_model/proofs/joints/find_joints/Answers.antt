use Rattle.std.proofs.Common.{length, ap, subst, sym, ◌∙◌, arith}
use Rattle.case_model.specs.Joints.{IsJoinedTo}
use Rattle.case_model.proofs.Joining.{all_joined}
use Rattle.case_model.proofs.joints.find_joints.Goals as goal

pub returns : goal.returns
returns c = all_joined c.args.mesh.now c.loop-node.joints.items (subst (λ n. IsJoinedTo c.args.mesh.now n 0 c.loop-node.joints.items) (omega (arith, ap length c.as_slice-nodes.ensures)) c.loop-node.invariant)
