use Rattle.schedule.proofs.Found.{never_stuck}
use Rattle.schedule.proofs.laws.never_stuck.Goals as goal

pub returns : goal.returns
returns c = never_stuck
