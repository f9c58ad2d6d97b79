use Rattle.std.proofs.Common.{arith, to_z-of_z}
use Rattle.std.proofs.lemmas.Int.{ints}
use Rattle.std.proofs.lemmas.Grind.{common_steps}
use Rattle.charline.specs.Characteristics.{flow_in}
use Rattle.junctions.proofs.MoreArrivals.{sum_of-more}
use Rattle.junctions.proofs.sums.write_inflows.Goals as goal

pub loop-i-preserved : goal.loop-i-preserved
loop-i-preserved c = record {
  flows = grind (arith, to_z-of_z, common_steps);
  sum = grind (arith, to_z-of_z, sum_of-more (flow_in c.args.head));
  size = omega (arith, ints);
}
