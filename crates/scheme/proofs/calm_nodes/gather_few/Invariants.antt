use Rattle.std.proofs.Common.{◌≡◌, ◌*◌, ◌≤◌, take, length, pos, ◌≤ℤ◌, unsigned_abs}
use Rattle.std.specs.List.{AllWithin}
use Rattle.charline.specs.Characteristics.{IsArrival}
use Rattle.junctions.specs.Sums.{sum_of, weight, weighted_head}
use Rattle.scheme.specs.CalmNodes.{AreOfPipes}
use Rattle.scheme.proofs.Gathered.{ArrivedTo}
use Rattle.scheme.proofs.calm_nodes.gather_few.Given as goal

abbrev pub invariant-loop-i : goal.invariant-loop-i
invariant-loop-i l = record {
  each : length l.arrivals ≡ length l.ends;
  arrived : ArrivedTo l.case.friction l.mesh l.ends l.near l.arrivals l.i;
  good : AllWithin IsArrival l.arrivals 0 l.i;
  impeded : AreOfPipes l.mesh l.ends l.arrivals l.i;
  heads : l.sums.heads ≡ sum_of weighted_head (take l.i l.arrivals);
  weights : l.sums.weights ≡ sum_of weight (take l.i l.arrivals);
  low : pos (1_000_000_000 * l.i) ≤ℤ l.sums.weights;
  high : l.sums.weights ≤ℤ pos (100_000_000_000_000_000 * l.i);
  size : unsigned_abs l.sums.heads ≤ 10_000_000_000_000 * unsigned_abs l.sums.weights;
}
