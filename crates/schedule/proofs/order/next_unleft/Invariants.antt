use Rattle.schedule.specs.Countings.{net_in, state_in}
use Rattle.schedule.specs.Order.{AreLeftBefore}
use Rattle.schedule.proofs.order.next_unleft.Given as goal

abbrev pub invariant-loop-turn : goal.invariant-loop-turn
invariant-loop-turn l = AreLeftBefore (net_in l.counts) (state_in l.counts) l.turn l.strand
