use Rattle.netfile.proofs.Judged.{verdict_so, verdict_only}
use Rattle.netfile.proofs.refusals.verdict_is_first.Goals as goal

pub returns-clause-so : goal.returns-clause-so
returns-clause-so c = λ bytes. verdict_so bytes

pub returns-clause-only : goal.returns-clause-only
returns-clause-only c = λ bytes v h. verdict_only bytes v h
