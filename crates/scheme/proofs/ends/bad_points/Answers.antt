use Rattle.case_model.specs.declared.points.Point.TheVariants.{Bad}
use Rattle.std.proofs.Common.{arith}
use Rattle.scheme.proofs.EndPoints.{each-all}
use Rattle.scheme.proofs.ends.bad_points.Goals as goal

pub returns : goal.returns
returns c =
    each-all (λ e. Bad) c.args.ends.now c.loop-i.points (omega arith) (λ k h. c.loop-i.invariant k (omega arith))
