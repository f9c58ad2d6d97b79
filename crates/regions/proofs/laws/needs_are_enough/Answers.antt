use Rattle.regions.proofs.Sound.{laid_enough}
use Rattle.regions.proofs.laws.needs_are_enough.Goals as goal

pub returns : goal.returns
returns c = laid_enough
