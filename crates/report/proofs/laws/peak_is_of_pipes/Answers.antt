use Rattle.report.proofs.Agreeing.{same-peak}
use Rattle.report.proofs.PeakLaws.{highest-is, lowest-is}
use Rattle.report.proofs.laws.peak_is_of_pipes.Goals as goal

pub returns-clause-highest : goal.returns-clause-highest
returns-clause-highest c = highest-is

pub returns-clause-lowest : goal.returns-clause-lowest
returns-clause-lowest c = lowest-is

pub returns-clause-text : goal.returns-clause-text
returns-clause-text c = same-peak
