use Rattle.std.proofs.Common.{arith, to_z-of_z}
use Rattle.std.proofs.lemmas.Int.{ints}
use Rattle.junctions.specs.Sums.{weight, weighted_head}
use Rattle.junctions.proofs.MoreArrivals.{sum_of-more}
use Rattle.junctions.proofs.sums.weighted_sums.Goals as goal

pub loop-arrival-preserved : goal.loop-arrival-preserved
loop-arrival-preserved c = record {
  heads = grind (arith, to_z-of_z, sum_of-more weighted_head);
  weights = grind (arith, to_z-of_z, sum_of-more weight);
  low = omega (arith, ints);
  high = omega (arith, ints);
  size = omega (arith, ints);
}
