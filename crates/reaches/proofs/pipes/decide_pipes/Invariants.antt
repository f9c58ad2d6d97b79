use Rattle.reaches.specs.Decided.{AreDecidedTo}
use Rattle.reaches.proofs.pipes.decide_pipes.Given as goal

abbrev pub invariant-loop-pipe : goal.invariant-loop-pipe
invariant-loop-pipe l = AreDecidedTo l.case l.pipe l.decided.items
