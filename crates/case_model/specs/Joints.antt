-- Where the ends of pipes stand among those of the nodes.
use Rattle.std.specs.Prelude.{◌≡◌, ◌⊎◌, ℕ, ◌<◌, ◌==◌, Bool, true, false, if◌then◌else◌}
use Rattle.std.specs.Prelude.{List, [], length, map, slice_index_or}
use Rattle.std.specs.List.{list_any, range_with_len}
use Rattle.case_model.specs.declared.joints.Joint.{Joint}
use Rattle.case_model.specs.declared.joints.PipeJoints.{PipeJoints}
use Rattle.case_model.specs.declared.meshes.End.{End}
use Rattle.case_model.specs.declared.meshes.Mesh.{Mesh}
use Rattle.case_model.specs.Mesh.{ends_of, end_node, end_index, is_end}

-- where an end of a pipe stands: its node, and which of the node's ends it is
abbrev pub joint_of : Mesh → ℕ → Bool → Joint
joint_of mesh p last = record { node = end_node mesh p last; index = end_index mesh p last }

abbrev pub joints_of : Mesh → ℕ → PipeJoints
joints_of mesh p = record { first = joint_of mesh p false; last = joint_of mesh p true }

-- both ends of each pipe
unfoldable pub all_joints : Mesh → List PipeJoints
all_joints mesh = map (joints_of mesh) (range_with_len 0 (length mesh.pipes))

-- what stands for an end that a node doesn't have, and for the ends of a pipe that isn't there
abbrev pub no_end : End
no_end = record { pipe = 0; at_last = false }

abbrev pub no_joint : Joint
no_joint = record { node = 0; index = 0 }

abbrev pub no_joints : PipeJoints
no_joints = record { first = no_joint; last = no_joint }

-- the joint of a pipe at its last place or at place 0
abbrev pub side_joint : Bool → PipeJoints → Joint
side_joint last both = if last then both.last else both.first

-- an old joint, or else a new one: the count of nodes stands for the node of an end that no node
-- has
abbrev pub or_joint : ℕ → Joint → Joint → Joint
or_joint nodes old new = if old.node == nodes then new else old

abbrev pub with_joint : ℕ → Bool → Joint → PipeJoints → PipeJoints
with_joint nodes last joint both =
    if last
    then record { first = both.first; last = or_joint nodes both.last joint }
    else record { first = or_joint nodes both.first joint; last = both.last }

-- no end of the nodes before n, nor of the first m ends of n, is this one
pub record IsNoneTo (mesh : Mesh) (n m p : ℕ) (last : Bool) : Type 0 where
  pub nodes : (k : ℕ) → k < n → list_any (is_end p last) (ends_of mesh k) ≡ false
  pub ends : (i : ℕ) → i < m → is_end p last (slice_index_or (ends_of mesh n) i no_end) ≡ false

-- the first end of all nodes that is this one
pub record IsFirstEnd (mesh : Mesh) (p : ℕ) (last : Bool) (joint : Joint) : Type 0 where
  pub node : joint.node < length mesh.ends
  pub index : joint.index < length (ends_of mesh joint.node)
  pub is : is_end p last (slice_index_or (ends_of mesh joint.node) joint.index no_end) ≡ true
  pub first : IsNoneTo mesh joint.node joint.index p last

pub record IsUnjoined (mesh : Mesh) (n m p : ℕ) (last : Bool) (joint : Joint) : Type 0 where
  pub node : joint.node ≡ length mesh.ends
  pub index : joint.index ≡ 0
  pub none : IsNoneTo mesh n m p last

-- both ends of each pipe, as far as they are among those of the nodes before n and the first m of n
pub record IsJoinedTo (mesh : Mesh) (n m : ℕ) (joints : List PipeJoints) : Type 0 where
  pub each : length joints ≡ length mesh.pipes
  pub found : (p : ℕ) → p < length mesh.pipes → (last : Bool)
      → IsFirstEnd mesh p last (side_joint last (slice_index_or joints p no_joints))
      ⊎ IsUnjoined mesh n m p last (side_joint last (slice_index_or joints p no_joints))
