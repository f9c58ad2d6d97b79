-- Nodes that store water: surge tanks and air vessels. The old inflow and the new one fill a tank,
-- the old one alone presses the gas of a vessel together. After Wylie and Streeter, Fluid
-- Transients in Systems: surge tanks, air chambers.
use Rattle.std.specs.Prelude.{ℤ, pos, ◌-◌, ◌+ℤ◌, ◌-ℤ◌, ◌*ℤ◌, int_le, Bool, ◌&&◌, if◌then◌else◌}
use Rattle.std.specs.Prelude.{List, length}
use Rattle.fixed_num.specs.Rounding.{rnd}
use Rattle.fixed_num.specs.Tables.{interp}
use Rattle.case_model.specs.declared.meshes.Arrival.{Arrival}
use Rattle.case_model.specs.declared.states.NodeState.{NodeState}
use Rattle.case_model.specs.declared.states.NodeState.TheVariants.{Good, Bad}
use Rattle.case_model.specs.Limits.{entry_at}
use Rattle.junctions.specs.Sums.{weight, weighted_head, sum_of}
use Rattle.junctions.specs.Levels.{filled, flows_of}

-- twice the area of a tank in 1e-6 m2, in the unit of a weight times a time
abbrev pub storage : ℤ → ℤ
storage area = area *ℤ pos 20_000_000_000_000_000

-- the head in 1e-6 m of a tank one time step (1e-6 s) after a head and an inflow (1e-9 m3/s): the
-- mean of the old and the new inflow over the step fills the area by the rise
unfoldable pub tank_head : ℤ → ℤ → ℤ → ℤ → List Arrival → ℤ
tank_head dt area head growth arrivals =
    rnd ((storage area *ℤ head) +ℤ
    (dt *ℤ ((growth *ℤ pos 10_000_000_000_000) +ℤ sum_of weighted_head arrivals)))
    (storage area +ℤ (dt *ℤ sum_of weight arrivals))

-- the state of a tank from its old one: Bad where that is
unfoldable pub tank_state : ℤ → ℤ → NodeState → List Arrival → NodeState
tank_state dt area (Good h v g) arrivals = filled (tank_head dt area h g arrivals) (pos 0) arrivals
tank_state dt area Bad arrivals = Bad

unfoldable pub tank_flows : ℤ → ℤ → NodeState → List Arrival → List ℤ
tank_flows dt area own arrivals = flows_of (tank_state dt area own arrivals) arrivals

-- the volume in 1e-9 m3 of a vessel's gas one time step after a volume and an inflow
unfoldable pub vessel_volume : ℤ → ℤ → ℤ → ℤ
vessel_volume dt volume growth = volume -ℤ rnd (dt *ℤ growth) (pos 1_000_000)

-- whether a gas table reaches from under a volume to over it
abbrev pub has_volume : List (ℤ × ℤ) → ℤ → Bool
has_volume gas volume =
    int_le (entry_at gas 0).0 volume && int_le volume (entry_at gas (length gas - 1)).0

-- a vessel with this volume of gas: its head is that of the gas table
abbrev pub vessel_with : List (ℤ × ℤ) → ℤ → List Arrival → NodeState
vessel_with gas volume arrivals =
    if has_volume gas volume then filled (interp gas volume) volume arrivals else Bad

-- the state of a vessel from its old one: Bad where that is, and where the table ends before its
-- volume
unfoldable pub vessel_state : ℤ → List (ℤ × ℤ) → NodeState → List Arrival → NodeState
vessel_state dt gas (Good h v g) arrivals = vessel_with gas (vessel_volume dt v g) arrivals
vessel_state dt gas Bad arrivals = Bad

unfoldable pub vessel_flows : ℤ → List (ℤ × ℤ) → NodeState → List Arrival → List ℤ
vessel_flows dt gas own arrivals = flows_of (vessel_state dt gas own arrivals) arrivals
