use Rattle.schedule.proofs.Lists.{always_ready}
use Rattle.schedule.proofs.laws.least_is_ready.Goals as goal

pub returns : goal.returns
returns c = always_ready
