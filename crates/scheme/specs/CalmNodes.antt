-- Junctions that have no cavity and get none, by what is prepared for their pipes.
use Rattle.std.specs.Prelude.{◌≡◌, ◌<◌, ℕ, ℤ, Bool, false, ◌==◌, unsigned_abs, Option, Some, None}
use Rattle.std.specs.Prelude.{List, slice_index_or}
use Rattle.case_model.specs.declared.meshes.Arrival.{Arrival}
use Rattle.case_model.specs.declared.meshes.CavityRule.{CavityRule}
use Rattle.case_model.specs.declared.meshes.End.{End}
use Rattle.case_model.specs.declared.meshes.Mesh.{Mesh}
use Rattle.case_model.specs.declared.points.Point.{Point}
use Rattle.case_model.specs.declared.states.NodeState.{NodeState}
use Rattle.case_model.specs.declared.states.NodeState.TheVariants.{Good, Bad}
use Rattle.junctions.specs.Junctions.{junction_state, junction_flows}
use Rattle.scheme.specs.Arrivals.{impedance}
use Rattle.scheme.specs.Ends.{end_points, no_arrival}

-- a node without a cavity
abbrev pub is_closed : NodeState → Bool
is_closed (Good h v g) = unsigned_abs v == 0
is_closed Bad = false

abbrev pub first_end : End
first_end = record { pipe = 0; at_last = false }

-- what arrives along each of the first ends has the impedance of its pipe
abbrev pub AreOfPipes : Mesh → List End → List Arrival → ℕ → Type 0
AreOfPipes mesh ends arrivals n =
    (i : ℕ) → i < n → (slice_index_or arrivals i no_arrival).b
    ≡ impedance mesh (slice_index_or ends i first_end).pipe

-- the state of a junction and the points of its ends, where something arrives along each
abbrev pub IsJunction : CavityRule → ℤ → NodeState → List End → Option (List Arrival) → NodeState
    → List Point → Type 0
IsJunction rule demand own ends (Some arrivals) state points =
    (state ≡ junction_state rule demand own arrivals)
    × (points ≡ end_points state ends (junction_flows rule demand own arrivals))
IsJunction rule demand own ends None state points = ⊥
