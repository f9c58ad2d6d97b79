use Rattle.std.proofs.Common.{arith}
use Rattle.scheme.proofs.EndPoints.{points-all}
use Rattle.scheme.proofs.ends.end_points.Goals as goal

pub returns : goal.returns
returns c =
    points-all c.args.state.now c.args.ends.now c.args.flows.now c.loop-i.points c.requires.flows_each (omega arith) (λ k h. c.loop-i.invariant k (omega arith))
