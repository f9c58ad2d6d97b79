use Rattle.std.proofs.Common.{length}
use Rattle.reaches.proofs.Joined.{IsMetTo}
use Rattle.reaches.proofs.ends.all_ends.Given as goal

abbrev pub invariant-loop-pipe : goal.invariant-loop-pipe
invariant-loop-pipe l = IsMetTo (length l.case.nodes) l.case.pipes l.pipe l.ends.items
