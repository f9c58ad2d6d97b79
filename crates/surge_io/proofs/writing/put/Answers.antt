use Rattle.std.proofs.Common.{arith}
use Rattle.surge_io.proofs.Appending.{Appends-more}
use Rattle.surge_io.proofs.writing.put.Goals as goal

pub loop-done-preserved : goal.loop-done-preserved
loop-done-preserved g c = record {
  within = omega (arith, c.in_ok-count.ensures.count);
  appended = Appends-more _ _ _ _ _ _ c.loop-done.invariant.appended c.in_ok-count.ensures.appended;
  later = omega (arith, c.write.ensures.later);
}
