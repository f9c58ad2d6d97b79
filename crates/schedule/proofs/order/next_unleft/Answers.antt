use Rattle.std.proofs.Common.{◌+◌, ◌*◌, refl, arith}
use Rattle.schedule.specs.Countings.{net_in, state_in}
use Rattle.schedule.proofs.Turns.{placed_at, next_turn, placed_end}
use Rattle.schedule.proofs.order.next_unleft.Goals as goal

pub returns-in-Some : goal.returns-in-Some
returns-in-Some c = placed_at (net_in c.args.counts.now) (state_in c.args.counts.now) c.loop-turn.turn c.loop-turn.strand c.in-Some.strand (omega arith) c.loop-turn.invariant c.in-Some.ensures.none c.in-Some.ensures.some

pub loop-turn-preserved : goal.loop-turn-preserved
loop-turn-preserved c = next_turn (net_in c.args.counts.now) (state_in c.args.counts.now) c.loop-turn.turn c.loop-turn.strand c.loop-turn.invariant c.in-None.ensures.none

pub returns : goal.returns
returns c = placed_end (net_in c.args.counts.now) (state_in c.args.counts.now) c.loop-turn.turn c.loop-turn.strand (2 * c.windows-2.result + 1) 0 c.loop-turn.invariant (omega arith) (omega arith) refl
