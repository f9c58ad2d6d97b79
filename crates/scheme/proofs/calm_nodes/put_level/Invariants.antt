use Rattle.std.proofs.Common.{◌≡◌, ◌<◌, ◌≤◌, ℕ, length, get_or, pos, unsigned_abs}
use Rattle.case_model.specs.declared.states.NodeState.TheVariants.{Good}
use Rattle.charline.specs.Characteristics.{flow_in}
use Rattle.junctions.specs.Levels.{inflows}
use Rattle.scheme.proofs.EndPoints.{PointedTo}
use Rattle.scheme.proofs.Gathered.{no_arrival}
use Rattle.scheme.proofs.calm_nodes.put_level.Given as goal

abbrev pub invariant-loop-i : goal.invariant-loop-i
invariant-loop-i l = record {
  each : length l.points ≡ length l.view.ends.now;
  pointed : PointedTo (Good l.head (pos 0) (pos 0)) l.view.ends.now (inflows l.head l.arrivals) l.points l.i;
  few : (k : ℕ) → k < l.i → unsigned_abs (flow_in l.head (get_or l.arrivals k no_arrival)) ≤ 1_000_000_000_000;
}
