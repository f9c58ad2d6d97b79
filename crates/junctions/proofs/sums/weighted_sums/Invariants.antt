use Rattle.std.proofs.Common.{◌≡◌, ◌*◌, ◌≤◌, take, pos, ◌≤ℤ◌, unsigned_abs}
use Rattle.junctions.specs.Sums.{sum_of, weight, weighted_head}
use Rattle.junctions.proofs.sums.weighted_sums.Given as goal

abbrev pub invariant-loop-arrival : goal.invariant-loop-arrival
invariant-loop-arrival l = record {
  heads : l.heads ≡ sum_of weighted_head (take l.arrival-index l.arrivals);
  weights : l.weights ≡ sum_of weight (take l.arrival-index l.arrivals);
  low : pos (1_000_000_000 * l.arrival-index) ≤ℤ l.weights;
  high : l.weights ≤ℤ pos (100_000_000_000_000_000 * l.arrival-index);
  size : unsigned_abs l.heads ≤ 10_000_000_000_000 * unsigned_abs l.weights;
}
