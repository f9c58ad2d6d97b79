use Rattle.case_model.specs.declared.points.Point.TheVariants.{Bad}
use Rattle.scheme.proofs.EndPoints.{EachFrom}
use Rattle.scheme.proofs.ends.bad_points.Given as goal

abbrev pub invariant-loop-i : goal.invariant-loop-i
invariant-loop-i l = EachFrom (λ e. Bad) l.ends l.points l.i
