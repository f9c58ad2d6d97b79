use Rattle.std.proofs.Common.{ℕ, ◌<◌, ◌≤◌}
use Rattle.schedule.specs.Countings.{net_in, state_in}
use Rattle.schedule.proofs.counts.Counts.are_published.Given as goal

abbrev pub invariant-loop-j : goal.invariant-loop-j
invariant-loop-j l = (j : ℕ) → j < l.j → l.wanted ≤ (state_in l.self).published ((net_in l.self).side l.strand j)
