use Rattle.std.proofs.Common.{length, ap, subst, arith}
use Rattle.reaches.specs.Decided.{AreDecidedTo}
use Rattle.reaches.proofs.Deciding.{decided_more}
use Rattle.reaches.proofs.pipes.decide_pipes.Goals as goal

pub loop-pipe-preserved : goal.loop-pipe-preserved
loop-pipe-preserved c = decided_more c.args.case.now c.loop-pipe.pipe c.loop-pipe.decided.items _ c.decide_pipe.result c.loop-pipe.invariant c.in_ok-push.ensures.items c.decide_pipe.ensures

pub returns : goal.returns
returns c = subst (λ n. AreDecidedTo c.args.case.now n c.loop-pipe.decided.items) (omega (arith, ap length c.as_slice-count.ensures)) c.loop-pipe.invariant
