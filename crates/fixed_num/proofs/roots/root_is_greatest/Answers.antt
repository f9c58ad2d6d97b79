use Rattle.fixed_num.proofs.RootLaws.{root-is}
use Rattle.fixed_num.proofs.roots.root_is_greatest.Goals as goal

pub returns : goal.returns
returns c = root-is
