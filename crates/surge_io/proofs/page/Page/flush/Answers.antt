use Rattle.surge_io.proofs.Chains.{flushed}
use Rattle.surge_io.proofs.page.Page.flush.Goals as goal

pub returns-clause-finished : goal.returns-clause-finished
returns-clause-finished g c = flushed (rw c.self.view_is at c.put-written.ensures)
