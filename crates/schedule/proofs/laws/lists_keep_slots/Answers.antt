use Rattle.schedule.proofs.Lists.{keeps_slots}
use Rattle.schedule.proofs.laws.lists_keep_slots.Goals as goal

pub returns : goal.returns
returns c = keeps_slots
