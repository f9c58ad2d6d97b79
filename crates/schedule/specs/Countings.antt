-- What counts show: their net and their state.
use Rattle.std.specs.Prelude.{◌≡◌, ℕ}
use Rattle.schedule.specs.declared.counts.Counts.{Counts}
use Rattle.schedule.specs.Counted.{net_over, state_over}
use Rattle.schedule.specs.Nets.{Net, HasRegion}
use Rattle.schedule.specs.States.{State}

abbrev pub net_in : Counts → Net
net_in counts = net_over counts.kinds.items counts.links.items counts.windows counts.slots

abbrev pub state_in : Counts → State
state_in counts = state_over (net_in counts) counts.entered.items counts.left.items

-- the strand has the region, with this count of regions entered, and has left all before it
pub record IsAt (counts : Counts) (x m count : ℕ) : Type 0 where
  pub region : HasRegion (net_in counts) x m
  pub entered : (state_in counts).entered x ≡ count
  pub left : (state_in counts).left x ≡ m
