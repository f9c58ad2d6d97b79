use Rattle.schedule.proofs.Kept.{stays_lawful}
use Rattle.schedule.proofs.laws.lawful_stays_lawful.Goals as goal

pub returns : goal.returns
returns c = stays_lawful
