use Rattle.case_writing.proofs.Upgrading.{upgraded_text}
use Rattle.case_writing.proofs.writing.write_upgraded.Goals as goal

pub returns : goal.returns
returns g c = rw (upgraded_text c.args.case.now) c.write_as.ensures
