-- What stands at step 0: heads by the nodes, flows by the pipes, and no cavity.
use Rattle.std.specs.Prelude.{ℕ, ℤ, pos, ◌+ℤ◌, ◌-ℤ◌, ◌*ℤ◌, Bool, true, false, if◌then◌else◌, List}
use Rattle.std.specs.Prelude.{[], ◌∷◌}
use Rattle.fixed_num.specs.Rounding.{rnd}
use Rattle.fixed_num.specs.Tables.{interp}
use Rattle.case_model.specs.declared.cases.Case.{Case}
use Rattle.case_model.specs.declared.cases.NodeKind.{NodeKind}
use Rattle.case_model.specs.declared.cases.NodeKind.TheVariants.{Reservoir, Junction, Discharge}
use Rattle.case_model.specs.declared.cases.NodeKind.TheVariants.{Inline, Pump, Tank, Vessel}
use Rattle.case_model.specs.declared.meshes.End.{End}
use Rattle.case_model.specs.declared.meshes.Mesh.{Mesh}
use Rattle.case_model.specs.declared.points.Point.{Point}
use Rattle.case_model.specs.declared.states.NodeState.{NodeState}
use Rattle.case_model.specs.Mesh.{reaches, ends_of}
use Rattle.case_model.specs.Parts.{node_at, pipe_at, table_at}
use Rattle.case_model.specs.Range.{state_of}
use Rattle.scheme.specs.Values.{value_at}
use Rattle.scheme.specs.Ends.{along, flowing}

-- the head of a node at step 0, towards a pipe whose last place is there, or whose place 0 is: a
-- node between two pipes has `start` towards the first and `start2` towards the second
unfoldable pub start_head : Case → NodeKind → Bool → ℤ
start_head case (Reservoir head) at_last = value_at case head 0
start_head case (Junction demand start) at_last = start
start_head case (Discharge q0 h0 outlet opening start) at_last = start
start_head case (Inline q0 h0 opening start start2) at_last = if at_last then start else start2
start_head case (Pump curve speed start start2) at_last = if at_last then start else start2
start_head case (Tank area start) at_last = start
start_head case (Vessel gas volume) at_last = interp (table_at case gas).points volume

-- the sum of the start flows into a node along these ends
abbrev pub start_inflow : Case → List End → ℤ
start_inflow case [] = pos 0
start_inflow case (e ∷ ends) = along e (pipe_at case e.pipe).flow +ℤ start_inflow case ends

-- the volume of a vessel's gas at step 0; elsewhere there is none
abbrev pub start_volume : NodeKind → ℤ
start_volume (Reservoir head) = pos 0
start_volume (Junction demand start) = pos 0
start_volume (Discharge q0 h0 outlet opening start) = pos 0
start_volume (Inline q0 h0 opening start start2) = pos 0
start_volume (Pump curve speed start start2) = pos 0
start_volume (Tank area start) = pos 0
start_volume (Vessel gas volume) = volume

-- the inflow of a tank or a vessel at step 0; elsewhere nothing grows
abbrev pub start_growth : Case → NodeKind → List End → ℤ
start_growth case (Reservoir head) ends = pos 0
start_growth case (Junction demand start) ends = pos 0
start_growth case (Discharge q0 h0 outlet opening start) ends = pos 0
start_growth case (Inline q0 h0 opening start start2) ends = pos 0
start_growth case (Pump curve speed start start2) ends = pos 0
start_growth case (Tank area start) ends = start_inflow case ends
start_growth case (Vessel gas volume) ends = start_inflow case ends

-- node k at step 0, with the head of side 1 where it has two
unfoldable pub start_node : Case → Mesh → ℕ → NodeState
start_node case mesh k =
    state_of (start_head case (node_at case k).kind true) (start_volume (node_at case k).kind)
    (start_growth case (node_at case k).kind (ends_of mesh k))

-- the head at place i of n, between the heads at both ends
unfoldable pub head_between : ℤ → ℤ → ℕ → ℕ → ℤ
head_between first last i n = first +ℤ rnd ((last -ℤ first) *ℤ pos i) (pos n)

-- place i of pipe p at step 0: its head between those of the pipe's nodes towards it, and the
-- pipe's flow
unfoldable pub start_point : Case → Mesh → ℕ → ℕ → Point
start_point case mesh p i =
    flowing (head_between (start_head case (node_at case (pipe_at case p).first).kind false)
    (start_head case (node_at case (pipe_at case p).last).kind true) i (reaches mesh p))
    (pipe_at case p).flow
