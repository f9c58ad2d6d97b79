use Rattle.std.proofs.Common.{arith, to_z-of_z}
use Rattle.std.proofs.lemmas.Int.{ints}
use Rattle.scheme.proofs.Shares.{inflow-more}
use Rattle.scheme.proofs.starts.start_inflow.Goals as goal

pub loop-end-preserved : goal.loop-end-preserved
loop-end-preserved c = record {
  sum = grind (arith, to_z-of_z, inflow-more c.args.case.now c.args.ends.now);
  size = omega (arith, ints);
}
