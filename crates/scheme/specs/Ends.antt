-- The points of a node's pipe ends, each with the node's head there and the flow along its pipe.
use Rattle.std.specs.Prelude.{ℤ, pos, neg_ℤ, not, if◌then◌else◌, List, [], ◌∷◌, map, slice_index_or}
use Rattle.std.specs.List.{position_or_len}
use Rattle.case_model.specs.declared.points.Point.{Point}
use Rattle.case_model.specs.declared.points.Point.TheVariants.{Bad}
use Rattle.case_model.specs.declared.states.NodeState.{NodeState}
use Rattle.case_model.specs.declared.states.NodeState.TheVariants.{Good as GoodState}
use Rattle.case_model.specs.declared.states.NodeState.TheVariants.{Bad as BadState}
use Rattle.case_model.specs.declared.meshes.Arrival.{Arrival}
use Rattle.case_model.specs.declared.meshes.End.{End}
use Rattle.case_model.specs.declared.meshes.Through.{Through}
use Rattle.case_model.specs.declared.meshes.Through.TheVariants.{Good as Passes, Bad as Stuck}
use Rattle.case_model.specs.Range.{point_of, state_of}

-- the flow along a pipe's positive direction, of a flow into the node at this end
abbrev pub along : End → ℤ → ℤ
along e q = if e.at_last then q else neg_ℤ q

-- a point with one flow and no cavity
abbrev pub flowing : ℤ → ℤ → Point
flowing h q = point_of h q q (pos 0)

-- the point of an end of a node with one head, of the node's state and the flow into it there
abbrev pub end_point : NodeState → End → ℤ → Point
end_point (GoodState h v g) e q = flowing h (along e q)
end_point BadState e q = Bad

-- the points of all its ends: every one Bad where the state is
abbrev pub end_points : NodeState → List End → List ℤ → List Point
end_points state [] flows = []
end_points state (e ∷ ends) [] = Bad ∷ end_points state ends []
end_points state (e ∷ ends) (q ∷ flows) = end_point state e q ∷ end_points state ends flows

-- the ends of a node that is Bad
abbrev pub bad_points : List End → List Point
bad_points ends = map (λ e. Bad) ends

-- a node between two pipes: side 1 is the pipe whose last place is there, side 2 the pipe whose
-- place 0 is
abbrev pub no_arrival : Arrival
no_arrival = record { c = pos 0; b = pos 0 }

abbrev pub side_one : List End → List Arrival → Arrival
side_one ends arrivals = slice_index_or arrivals (position_or_len (λ e. e.at_last) ends) no_arrival

abbrev pub side_two : List End → List Arrival → Arrival
side_two ends arrivals =
    slice_index_or arrivals (position_or_len (λ e. not e.at_last) ends) no_arrival

-- its state, with the head of side 1
abbrev pub through_state : Through → NodeState
through_state (Passes q h1 h2) = state_of h1 (pos 0) (pos 0)
through_state Stuck = BadState

-- the points of its ends: the head of each side, and the one flow
abbrev pub through_point : Through → End → Point
through_point (Passes q h1 h2) e = flowing (if e.at_last then h1 else h2) q
through_point Stuck e = Bad

abbrev pub through_points : Through → List End → List Point
through_points through ends = map (through_point through) ends
