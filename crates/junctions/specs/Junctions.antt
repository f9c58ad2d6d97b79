-- Reservoirs and junctions. A junction has one head, at which its inflows less its demand add to 0.
-- Where that head would fall below the vapour head it is held there, and a cavity grows by the
-- demand less the inflows. After Wylie and Streeter, Fluid Transients in Systems: boundary
-- conditions, column separation.
use Rattle.std.specs.Prelude.{ℤ, pos, ◌-ℤ◌, ◌*ℤ◌, int_le, int_lt, unsigned_abs, ◌==◌, ◌&&◌}
use Rattle.std.specs.Prelude.{if◌then◌else◌, List}
use Rattle.std.specs.Int.{int_max}
use Rattle.fixed_num.specs.Rounding.{rnd}
use Rattle.case_model.specs.declared.meshes.Arrival.{Arrival}
use Rattle.case_model.specs.declared.meshes.CavityRule.{CavityRule}
use Rattle.case_model.specs.declared.states.NodeState.{NodeState}
use Rattle.case_model.specs.declared.states.NodeState.TheVariants.{Good, Bad}
use Rattle.charline.specs.Cavity.{cavity_volume}
use Rattle.junctions.specs.Sums.{weight, weighted_head, sum_of, inflow}
use Rattle.junctions.specs.Levels.{state_at, flows_of}

-- a node at a head, with no cavity and no growth
abbrev pub liquid : ℤ → List Arrival → NodeState
liquid h arrivals = state_at h (pos 0) (pos 0) arrivals

-- a reservoir has its head whatever arrives
unfoldable pub reservoir_state : ℤ → List Arrival → NodeState
reservoir_state head arrivals = liquid head arrivals

unfoldable pub reservoir_flows : ℤ → List Arrival → List ℤ
reservoir_flows head arrivals = flows_of (reservoir_state head arrivals) arrivals

-- the head in 1e-6 m at which the inflows of a junction give its demand in 1e-9 m3/s, but for
-- rounding
unfoldable pub junction_head : ℤ → List Arrival → ℤ
junction_head demand arrivals =
    rnd (sum_of weighted_head arrivals -ℤ (demand *ℤ pos 10_000_000_000_000))
    (sum_of weight arrivals)

-- the growth of a cavity at a junction
abbrev pub junction_growth : ℤ → ℤ → List Arrival → ℤ
junction_growth hv demand arrivals = demand -ℤ inflow hv arrivals

-- a cavity with this growth and this volume after the step: kept while the volume is positive, else
-- closed, at the head of the liquid but not below the vapour head
abbrev pub kept_or_closed : ℤ → ℤ → ℤ → ℤ → List Arrival → NodeState
kept_or_closed hv head growth volume arrivals =
    if int_lt (pos 0) volume then state_at hv volume growth arrivals
    else liquid (int_max head hv) arrivals

-- a junction of this head without a cavity, with the volume and the growth of the step before
abbrev pub junction_after : CavityRule → ℤ → ℤ → ℤ → ℤ → List Arrival → NodeState
junction_after rule demand head volume growth arrivals =
    if (unsigned_abs volume == 0) && int_le rule.hv head
    then liquid head arrivals
    else kept_or_closed rule.hv head (junction_growth rule.hv demand arrivals)
    (cavity_volume rule volume growth (junction_growth rule.hv demand arrivals)) arrivals

-- the state of a junction from its old one: Bad where that is
unfoldable pub junction_state : CavityRule → ℤ → NodeState → List Arrival → NodeState
junction_state rule demand (Good h v g) arrivals =
    junction_after rule demand (junction_head demand arrivals) v g arrivals
junction_state rule demand Bad arrivals = Bad

unfoldable pub junction_flows : CavityRule → ℤ → NodeState → List Arrival → List ℤ
junction_flows rule demand own arrivals =
    flows_of (junction_state rule demand own arrivals) arrivals
