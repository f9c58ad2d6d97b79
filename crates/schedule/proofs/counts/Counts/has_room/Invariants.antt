use Rattle.std.proofs.Common.{ℕ, ◌<◌, ◌+◌}
use Rattle.schedule.specs.Countings.{net_in, state_in}
use Rattle.schedule.proofs.counts.Counts.has_room.Given as goal

abbrev pub invariant-loop-j : goal.invariant-loop-j
invariant-loop-j l = (j : ℕ) → j < l.j → l.region < (state_in l.self).passed ((net_in l.self).side l.strand j) ((net_in l.self).back l.strand j) + l.self.slots
