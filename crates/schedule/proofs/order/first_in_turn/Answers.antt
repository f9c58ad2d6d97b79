use Rattle.std.proofs.Common.{◌≡◌, false, true, length, arith}
use Rattle.schedule.specs.Countings.{net_in, state_in}
use Rattle.schedule.proofs.Turns.{left_more, left_to}
use Rattle.schedule.proofs.order.first_in_turn.Goals as goal

pub loop-strand-preserved : goal.loop-strand-preserved
loop-strand-preserved c = left_more (net_in c.args.counts.now) (state_in c.args.counts.now) c.args.turn c.args.from c.loop-strand.strand (omega arith) c.loop-strand.invariant (λ u. let never : false ≡ true = c.if-is_unleft.ensures.1 u in cc)

pub returns-clause-none : goal.returns-clause-none
returns-clause-none c = left_to (net_in c.args.counts.now) (state_in c.args.counts.now) c.args.turn c.args.from c.loop-strand.strand (length c.args.counts.now.kinds.items) c.loop-strand.invariant (omega arith)
