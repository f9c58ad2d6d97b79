use Rattle.regions.proofs.Sound.{laid_mutual}
use Rattle.regions.proofs.laws.sides_are_mutual.Goals as goal

pub returns : goal.returns
returns c = laid_mutual
