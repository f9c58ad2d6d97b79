use Rattle.std.proofs.Common.{subst}
use Rattle.reaches.specs.Decided.{IsJudged}
use Rattle.reaches.proofs.Deciding.{unbroken}
use Rattle.reaches.proofs.pipes.broken_rule.Goals as goal

pub returns-in-Ok : goal.returns-in-Ok
returns-in-Ok c = λ dt tolerance p h n b. unbroken dt tolerance p n ((subst (IsJudged dt tolerance p) c.in-Ok.is h).0) b
