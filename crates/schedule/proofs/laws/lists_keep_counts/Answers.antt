use Rattle.schedule.proofs.Lists.{keeps_counts}
use Rattle.schedule.proofs.laws.lists_keep_counts.Goals as goal

pub returns : goal.returns
returns c = keeps_counts
