use Rattle.schedule.specs.Countings.{net_in, state_in}
use Rattle.schedule.specs.Order.{AreLeftOf}
use Rattle.schedule.proofs.order.first_in_turn.Given as goal

abbrev pub invariant-loop-strand : goal.invariant-loop-strand
invariant-loop-strand l = AreLeftOf (net_in l.counts) (state_in l.counts) l.turn l.from l.strand
