use Rattle.endhistory.proofs.PartsKept.{passed_older}
use Rattle.endhistory.proofs.laws.stores_over_passed_blocks.Goals as goal

pub returns : goal.returns
returns c = λ z blocks words w reading word x some parts needs. passed_older z blocks words w reading some parts needs.free
