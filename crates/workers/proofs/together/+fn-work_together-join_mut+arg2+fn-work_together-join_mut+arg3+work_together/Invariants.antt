-- Why the halving of the workers ends.
use Rattle.std.specs.Prelude.{length}
use Rattle.workers.proofs.together.+fn-work_together-join_mut+arg2+fn-work_together-join_mut+arg3+work_together.Given as goal

abbrev pub decreases-join_mut+arg2 : goal.decreases-join_mut+arg2
decreases-join_mut+arg2 g l = length l.front.now

abbrev pub decreases-join_mut+arg3 : goal.decreases-join_mut+arg3
decreases-join_mut+arg3 g l = length l.back.now

abbrev pub decreases-work_together : goal.decreases-work_together
decreases-work_together g l = length l.hands.now
