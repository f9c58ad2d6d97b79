use Rattle.surge_io.proofs.Chains.{flush_failed, written_behind}
use Rattle.surge_io.proofs.page.Page.add.Goals as goal

pub returns-in_err-flush-clause-added : goal.returns-in_err-flush-clause-added
returns-in_err-flush-clause-added g c = flush_failed c.args.piece.now c.from_residual.ensures.0 c.in_err-flush.ensures.finished

pub returns-clause-added : goal.returns-clause-added
returns-clause-added g c = written_behind c.in_ok-flush.ensures.finished c.flush.ensures.empty c.put.ensures
