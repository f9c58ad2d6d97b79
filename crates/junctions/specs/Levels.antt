-- A node with one head: its state, and the flow into it along each of its ends.
use Rattle.std.specs.Prelude.{ℤ, pos, nat_le, Bool, unsigned_abs, if◌then◌else◌, List, length, map}
use Rattle.std.specs.Prelude.{replicate}
use Rattle.std.specs.List.{list_all}
use Rattle.case_model.specs.declared.meshes.Arrival.{Arrival}
use Rattle.case_model.specs.declared.states.NodeState.{NodeState}
use Rattle.case_model.specs.declared.states.NodeState.TheVariants.{Good, Bad}
use Rattle.case_model.specs.Range.{state_of}
use Rattle.charline.specs.Characteristics.{flow_in}
use Rattle.junctions.specs.Sums.{inflow}

-- whether a flow is in range
abbrev pub is_flow : ℤ → Bool
is_flow q = nat_le (unsigned_abs q) 1_000_000_000_000

-- the flow into the node along each arrival, at a head of the node
abbrev pub inflows : ℤ → List Arrival → List ℤ
inflows h arrivals = map (flow_in h) arrivals

-- a node at a head, with a volume and a growth: Bad where one of these or the flow of an end is out
-- of range
unfoldable pub state_at : ℤ → ℤ → ℤ → List Arrival → NodeState
state_at h v g arrivals = if list_all is_flow (inflows h arrivals) then state_of h v g else Bad

-- a node that stores what flows into it: its growth is the inflow at its head
abbrev pub filled : ℤ → ℤ → List Arrival → NodeState
filled h v arrivals = state_at h v (inflow h arrivals) arrivals

-- the flow into the node along each arrival, by the node's new state: that at its head, or 0 where
-- it is Bad
unfoldable pub flows_of : NodeState → List Arrival → List ℤ
flows_of (Good h v g) arrivals = inflows h arrivals
flows_of Bad arrivals = replicate (length arrivals) (pos 0)
