use Rattle.std.specs.Prelude.{ℕ, List}
use Rattle.std.specs.List.{All}
use Rattle.case_model.specs.declared.meshes.Mesh.{Mesh}
use Rattle.case_model.specs.declared.points.Point.{Point}
use Rattle.case_model.specs.declared.states.NodeState.{NodeState}
use Rattle.case_model.specs.Range.{IsPoint, IsState}

-- what a hydraulic law means: the mesh that it fits, and an answer to each of its calls
pub record Meaning : Type 0 where
  pub mesh : Mesh
  -- pipe, place, then the points one step earlier: left, own, right
  pub inner : ℕ → ℕ → Point → Point → Point → Point
  -- node, step that is computed, own state and the neighbours' points one step earlier
  pub node : ℕ → ℕ → NodeState → List Point → NodeState
  -- of the same, the points of the node's ends
  pub ends : ℕ → ℕ → NodeState → List Point → List Point
  -- what stands at the start, at step 0: pipe, place; node
  pub start_point : ℕ → ℕ → Point
  pub start_node : ℕ → NodeState

-- the start is in range, and of what is in range the law makes only what is in range
pub record IsMeaning (law : Meaning) : Type 0 where
  pub inner : (p i : ℕ) (left own right : Point) → IsPoint left → IsPoint own → IsPoint right
      → IsPoint (law.inner p i left own right)
  pub node : (k s : ℕ) (own : NodeState) (near : List Point) → IsState own → All IsPoint near
      → IsState (law.node k s own near)
  pub ends : (k s : ℕ) (own : NodeState) (near : List Point) → IsState own → All IsPoint near
      → All IsPoint (law.ends k s own near)
  pub start_point : (p i : ℕ) → IsPoint (law.start_point p i)
  pub start_node : (k : ℕ) → IsState (law.start_node k)
