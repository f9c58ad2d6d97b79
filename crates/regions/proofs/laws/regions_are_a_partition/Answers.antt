use Rattle.regions.proofs.Sound.{laid_partition}
use Rattle.regions.proofs.laws.regions_are_a_partition.Goals as goal

pub returns : goal.returns
returns c = laid_partition
