use Rattle.scheme.specs.Ends.{through_point}
use Rattle.std.proofs.Common.{arith}
use Rattle.scheme.proofs.EndPoints.{each-all}
use Rattle.scheme.proofs.ends.pass.Goals as goal

pub returns-clause-points : goal.returns-clause-points
returns-clause-points c =
    each-all (through_point c.args.through.now) c.args.ends.now c.loop-i.points (omega arith) (λ k h. c.loop-i.invariant k (omega arith))
