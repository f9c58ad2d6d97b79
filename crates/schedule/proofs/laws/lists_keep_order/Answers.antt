use Rattle.schedule.proofs.Lists.{keeps_order}
use Rattle.schedule.proofs.laws.lists_keep_order.Goals as goal

pub returns : goal.returns
returns c = keeps_order
