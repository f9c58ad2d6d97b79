use Rattle.scheme.specs.Ends.{through_point}
use Rattle.scheme.proofs.EndPoints.{EachFrom}
use Rattle.scheme.proofs.ends.pass.Given as goal

abbrev pub invariant-loop-i : goal.invariant-loop-i
invariant-loop-i l = EachFrom (through_point l.through) l.ends l.points l.i
