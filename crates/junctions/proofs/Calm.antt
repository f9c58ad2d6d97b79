-- Junctions that have no cavity and get none.
use Rattle.std.proofs.Common.{◌≡◌, ◌≤◌, ℤ, pos, ◌≤ℤ◌, unsigned_abs, Bool, true, List, arith, refl}
use Rattle.std.specs.List.{list_all}
use Rattle.std.proofs.lemmas.Bool.Decides.{nat_tests}
use Rattle.std.proofs.lemmas.Int.{ints}
use Rattle.fixed_num.proofs.Orders.{at_most_at}
use Rattle.case_model.specs.declared.meshes.Arrival.{Arrival}
use Rattle.case_model.specs.declared.meshes.CavityRule.{CavityRule}
use Rattle.case_model.specs.declared.states.NodeState.{NodeState}
use Rattle.case_model.specs.declared.states.NodeState.TheVariants.{Good, Bad}
use Rattle.case_model.specs.Range.{state_of}
use Rattle.junctions.specs.Levels.{is_flow, inflows, state_at, flows_of}
use Rattle.junctions.specs.Junctions.{junction_head, junction_state, junction_flows}

level_state : (head : ℤ) (arrivals : List Arrival) → unsigned_abs head ≤ 100000000000 → list_all is_flow (inflows head arrivals) ≡ true → state_at head (pos 0) (pos 0) arrivals ≡ Good head (pos 0) (pos 0)
unfolding state_at state_of
level_state head arrivals near few = rw few (grind (arith, ints, nat_tests))

-- such a junction has its head, from the vapour head on, where this and its flows are in range
pub calm_junction : (rule : CavityRule) (demand h g : ℤ) (arrivals : List Arrival) → rule.hv ≤ℤ junction_head demand arrivals → unsigned_abs (junction_head demand arrivals) ≤ 100000000000 → list_all is_flow (inflows (junction_head demand arrivals) arrivals) ≡ true → junction_state rule demand (Good h (pos 0) g) arrivals ≡ Good (junction_head demand arrivals) (pos 0) (pos 0)
unfolding junction_state
calm_junction rule demand h g arrivals above near few =
    rw (at_most_at rule.hv (junction_head demand arrivals) above) (level_state (junction_head demand arrivals) arrivals near few)

-- and the flows at this head
pub calm_flows : (rule : CavityRule) (demand h g head : ℤ) (arrivals : List Arrival) → junction_state rule demand (Good h (pos 0) g) arrivals ≡ Good head (pos 0) (pos 0) → junction_flows rule demand (Good h (pos 0) g) arrivals ≡ inflows head arrivals
unfolding junction_flows flows_of
calm_flows rule demand h g head arrivals e = rw e refl
