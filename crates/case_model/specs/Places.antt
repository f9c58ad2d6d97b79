use Rattle.std.specs.Prelude.{ℕ, Bool, true, false, List, length, ◌++◌, map, IsTrue, slice_index_or}
use Rattle.std.specs.List.{flat_map, range_with_len}
use Rattle.case_model.specs.declared.points.Point.{Point}
use Rattle.case_model.specs.declared.points.Point.TheVariants.{Good, Bad}
use Rattle.case_model.specs.declared.states.NodeState.{NodeState}
use Rattle.case_model.specs.declared.states.NodeState.TheVariants.{Good as GoodState}
use Rattle.case_model.specs.declared.states.NodeState.TheVariants.{Bad as BadState}
use Rattle.case_model.specs.Meaning.{Meaning}
use Rattle.case_model.specs.Rows.{points, states}

-- whether a point is Bad
abbrev pub is_bad : Point → Bool
is_bad (Good h qu qd v) = false
is_bad Bad = true

-- whether a node's state is Bad
abbrev pub is_bad_state : NodeState → Bool
is_bad_state (GoodState h v g) = false
is_bad_state BadState = true

-- for each place of the mesh, in order of place numbers, whether it is Bad at step s:
-- the nodes in file order, then places 0 to N of each pipe in file order
unfoldable pub bad_places : Meaning → ℕ → List Bool
bad_places law s =
    map is_bad_state (states law s)
    ++ flat_map (λ p. map is_bad (points law s p)) (range_with_len 0 (length law.mesh.pipes))

-- place number k is Bad at step s
abbrev pub IsBadAt : Meaning → ℕ → ℕ → Type 0
IsBadAt law s k = IsTrue (slice_index_or (bad_places law s) k false)
