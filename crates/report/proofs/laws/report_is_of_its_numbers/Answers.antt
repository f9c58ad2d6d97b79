use Rattle.report.proofs.Agreeing.{same-report}
use Rattle.report.proofs.laws.report_is_of_its_numbers.Goals as goal

pub returns : goal.returns
returns c = same-report
