use Rattle.std.proofs.Common.{◌≡◌, ◌*◌, ◌≤◌, take, map, unsigned_abs}
use Rattle.charline.specs.Characteristics.{flow_in}
use Rattle.junctions.specs.Sums.{inflow}
use Rattle.junctions.proofs.sums.write_inflows.Given as goal

abbrev pub invariant-loop-i : goal.invariant-loop-i
invariant-loop-i l = record {
  flows : take l.i l.flows ≡ map (flow_in l.head) (take l.i l.arrivals);
  sum : l.sum ≡ inflow l.head (take l.i l.arrivals);
  size : unsigned_abs l.sum ≤ 110_000_000_000_000_000 * l.i;
}
