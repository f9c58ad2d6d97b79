use Rattle.std.specs.Prelude.{◌≡◌, ℕ, ◌+◌, ◌-◌, ◌^◌, ◌<◌, ◌≤◌, Bool, not, ◌&&◌, ◌==◌, if◌then◌else◌}
use Rattle.std.specs.Prelude.{List, [], length, take, sum_by, pos, slice_index_or}
use Rattle.std.specs.List.{AllByRecursion, list_any, position_or_len}
use Rattle.case_model.specs.declared.meshes.End.{End}
use Rattle.case_model.specs.declared.meshes.Mesh.{Mesh}
use Rattle.case_model.specs.declared.meshes.PipeMesh.{PipeMesh}

-- what stands for a pipe that the mesh doesn't have
abbrev pub no_pipe : PipeMesh
no_pipe = record { reaches = 0; b = pos 0; r = pos 0; base = 0 }

-- the count of reaches of pipe p: its places are 0 to this
abbrev pub reaches : Mesh → ℕ → ℕ
reaches mesh p = (slice_index_or mesh.pipes p no_pipe).reaches

-- the place number of place 0 of pipe p
abbrev pub base_of : Mesh → ℕ → ℕ
base_of mesh p = (slice_index_or mesh.pipes p no_pipe).base

-- the pipe ends at node k, in file order of pipes
abbrev pub ends_of : Mesh → ℕ → List End
ends_of mesh k = slice_index_or mesh.ends k []

-- the place beside a pipe end, on its pipe
abbrev pub next_to : Mesh → End → ℕ
next_to mesh e = if e.at_last then reaches mesh e.pipe - 1 else 1

-- this end is that of pipe p, at its last place or at place 0
abbrev pub is_end : ℕ → Bool → End → Bool
is_end p last e = (e.pipe == p) && (if e.at_last then last else not last)

-- the node where pipe p ends, at its last place or at place 0
abbrev pub end_node : Mesh → ℕ → Bool → ℕ
end_node mesh p last = position_or_len (list_any (is_end p last)) mesh.ends

-- which of this node's ends that is
abbrev pub end_index : Mesh → ℕ → Bool → ℕ
end_index mesh p last = position_or_len (is_end p last) (ends_of mesh (end_node mesh p last))

-- the count of places before those of pipe p: all nodes, and places 0 to N of each earlier pipe
abbrev pub places_before : Mesh → ℕ → ℕ
places_before mesh p = length mesh.ends + sum_by (λ pipe. pipe.reaches + 1) (take p mesh.pipes)

-- a mesh in which rows can be computed: each end is that of one of its pipes, each pipe has an
-- inner place, and both its ends stand at nodes
pub record IsMesh (mesh : Mesh) : Type 0 where
  pub pipes : (k : ℕ) → k < length mesh.ends
      → AllByRecursion (λ e. e.pipe < length mesh.pipes) (ends_of mesh k)
  pub long : (p : ℕ) → p < length mesh.pipes → 2 ≤ reaches mesh p
  pub small : (p : ℕ) → p < length mesh.pipes → reaches mesh p < 2 ^ 32
  pub found : (p : ℕ) (last : Bool) → p < length mesh.pipes
      → end_node mesh p last < length mesh.ends

-- places are numbered without a gap: the nodes, then the places of each pipe, in file order
pub record IsNumbered (mesh : Mesh) : Type 0 where
  pub bases : (p : ℕ) → p < length mesh.pipes → base_of mesh p ≡ places_before mesh p
  pub all : mesh.places ≡ places_before mesh (length mesh.pipes)
