use Rattle.std.specs.Prelude.{ℕ, zero, suc, ◌+◌, ◌-◌, Bool, true, false, ◌==◌, if◌then◌else◌, List}
use Rattle.std.specs.Prelude.{length, map, slice_index_or}
use Rattle.std.specs.List.{range_with_len}
use Rattle.case_model.specs.declared.meshes.Mesh.{Mesh}
use Rattle.case_model.specs.declared.points.Point.{Point}
use Rattle.case_model.specs.declared.points.Point.TheVariants.{Bad}
use Rattle.case_model.specs.declared.states.NodeState.{NodeState}
use Rattle.case_model.specs.Meaning.{Meaning}
use Rattle.case_model.specs.Mesh.{reaches, ends_of, next_to, end_node, end_index}

-- the whole mesh at one step: a state for each node, a point for each place of each pipe
pub record Row : Type 0 where
  pub state : ℕ → NodeState
  pub point : ℕ → ℕ → Point

-- the points beside node k on its pipes, in the order of its ends
unfoldable pub near : Mesh → Row → ℕ → List Point
near mesh row k = map (λ e. row.point e.pipe (next_to mesh e)) (ends_of mesh k)

-- the points of the ends of node k at step s, computed from the row before
unfoldable pub node_ends : Meaning → ℕ → Row → ℕ → List Point
node_ends law s before k = law.ends k s (before.state k) (near law.mesh before k)

-- the point of an end of pipe p at step s: that which its node gives it
unfoldable pub end_point : Meaning → ℕ → Row → ℕ → Bool → Point
end_point law s before p last =
    slice_index_or (node_ends law s before (end_node law.mesh p last))
    (end_index law.mesh p last) Bad

-- the row of step s, made of the row before alone
unfoldable pub next : Meaning → ℕ → Row → Row
next law s before = record {
  state = λ k. law.node k s (before.state k) (near law.mesh before k);
  point = λ p i.
      if i == 0 then end_point law s before p false
      else if i == reaches law.mesh p then end_point law s before p true
      else law.inner p i (before.point p (i - 1)) (before.point p i) (before.point p (i + 1));
}

-- the mesh, row by row; rows go on after a Bad point and past the last step
unfoldable pub row : Meaning → ℕ → Row
row law zero = record { state = law.start_node; point = law.start_point }
row law (suc s) = next law (suc s) (row law s)

-- the points of pipe p at step s, from place 0 on
unfoldable pub points : Meaning → ℕ → ℕ → List Point
points law s p = map ((row law s).point p) (range_with_len 0 (reaches law.mesh p + 1))

-- the states of all nodes at step s
unfoldable pub states : Meaning → ℕ → List NodeState
states law s = map (row law s).state (range_with_len 0 (length law.mesh.ends))

-- the points of all pipes at step s
unfoldable pub all_points : Meaning → ℕ → List (List Point)
all_points law s = map (points law s) (range_with_len 0 (length law.mesh.pipes))

-- the points of the ends of all nodes, as the step after s gives them
unfoldable pub all_ends : Meaning → ℕ → List (List Point)
all_ends law s = map (node_ends law (s + 1) (row law s)) (range_with_len 0 (length law.mesh.ends))
