-- Where the ends of a pipe stand, from those of all pipes.
use Rattle.std.proofs.Common.{◌≡◌, ℕ, ◌<◌, ◌≤◌, Bool, true, false, not, length, List, get_or, ap, ◌∙◌}
use Rattle.std.specs.List.{list_any}
use Rattle.std.proofs.lemmas.List.Sums.{prefix_len-le-length}
use Rattle.case_model.specs.declared.joints.PipeJoints.{PipeJoints}
use Rattle.case_model.specs.declared.meshes.Mesh.{Mesh}
use Rattle.case_model.specs.Joints.{all_joints, no_joints}
use Rattle.case_model.proofs.Joining.{joints-at}
use Rattle.case_model.specs.Mesh.{end_node, is_end}

pub node-few : (mesh : Mesh) (p : ℕ) (last : Bool) → end_node mesh p last ≤ length mesh.ends
node-few mesh p last = prefix_len-le-length (λ x. not (list_any (is_end p last) x)) mesh.ends

-- the nodes of a pipe, as they stand among the joints
pub first-node : (mesh : Mesh) (p : ℕ) (joints : List PipeJoints) → joints ≡ all_joints mesh → p < length mesh.pipes → (get_or joints p no_joints).first.node ≡ end_node mesh p false
first-node mesh p joints e h = ap (λ (xs : List PipeJoints). (get_or xs p no_joints).first.node) e ∙ ap (λ (b : PipeJoints). b.first.node) (joints-at mesh p no_joints h)

pub last-node : (mesh : Mesh) (p : ℕ) (joints : List PipeJoints) → joints ≡ all_joints mesh → p < length mesh.pipes → (get_or joints p no_joints).last.node ≡ end_node mesh p true
last-node mesh p joints e h = ap (λ (xs : List PipeJoints). (get_or xs p no_joints).last.node) e ∙ ap (λ (b : PipeJoints). b.last.node) (joints-at mesh p no_joints h)
