use Rattle.regions.proofs.Sound.{laid_touching}
use Rattle.regions.proofs.laws.strands_touch.Goals as goal

pub returns : goal.returns
returns c = laid_touching
