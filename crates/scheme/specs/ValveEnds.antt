-- Discharge valves, by what is prepared for their pipes.
use Rattle.std.specs.Prelude.{◌≡◌, ℤ, Option, Some, None, List, [], ◌∷◌}
use Rattle.case_model.specs.declared.meshes.Arrival.{Arrival}
use Rattle.case_model.specs.declared.meshes.CavityRule.{CavityRule}
use Rattle.case_model.specs.declared.meshes.End.{End}
use Rattle.case_model.specs.declared.points.Point.{Point}
use Rattle.case_model.specs.declared.states.NodeState.{NodeState}
use Rattle.valves.specs.declared.discharges.Valve.{Valve}
use Rattle.valves.specs.Discharges.{discharge_state, discharge_flow}
use Rattle.scheme.specs.Ends.{end_points}
use Rattle.scheme.specs.NodeLaws.{sole}

-- the state of a discharge valve at an opening and the points of its ends, where something arrives
-- along each
abbrev pub IsDischarge : CavityRule → Valve → ℤ → NodeState → List End → Option (List Arrival)
    → NodeState → List Point → Type 0
IsDischarge rule valve opening own ends (Some arrivals) state points =
    (state ≡ discharge_state rule valve opening own (sole arrivals))
    × (points
    ≡ end_points state ends (discharge_flow rule valve opening own (sole arrivals) ∷ []))
IsDischarge rule valve opening own ends None state points = ⊥
