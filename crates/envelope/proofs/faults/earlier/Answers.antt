use Rattle.std.proofs.Common.{subst}
use Rattle.envelope.specs.Faults.{HasFault}
use Rattle.envelope.proofs.FirstBad.{joined-fault}
use Rattle.envelope.proofs.faults.earlier.Goals as goal

pub returns-in-Some-Some : goal.returns-in-Some-Some
returns-in-Some-Some c = λ spans last map more g p q.
    joined-fault spans last map more c.in-Some-Some.a c.in-Some-Some.b c.earlier_pair.result g
    (subst (λ f. HasFault spans last map f) c.in-Some-Some.is-0 p)
    (subst (λ f. HasFault spans last more f) c.in-Some-Some.is-1 q)
    c.earlier_pair.ensures
