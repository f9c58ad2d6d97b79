use Rattle.scheme.proofs.EndPoints.{PointedTo}
use Rattle.scheme.proofs.ends.end_points.Given as goal

abbrev pub invariant-loop-i : goal.invariant-loop-i
invariant-loop-i l = PointedTo l.state l.ends l.flows l.points l.i
