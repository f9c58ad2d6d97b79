-- What a plan shows: its net and its state.
use Rattle.schedule.specs.declared.plan.Plan.{Plan}
use Rattle.schedule.specs.Countings.{net_in, state_in}
use Rattle.schedule.specs.Nets.{Net}
use Rattle.schedule.specs.States.{State}

abbrev pub net_of : Plan → Net
net_of plan = net_in plan.counts

abbrev pub state_of : Plan → State
state_of plan = state_in plan.counts
