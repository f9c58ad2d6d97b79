use Rattle.claimboard.proofs.Holders.{one_holder, numbers_differ, finished_is_held_by_none}
use Rattle.claimboard.proofs.laws.one_holder.Goals as goal

pub returns-clause-holder : goal.returns-clause-holder
returns-clause-holder g c = one_holder g.T.Item.number_of g.T.Item.is_finished g.T.Item.is_good

pub returns-clause-numbers : goal.returns-clause-numbers
returns-clause-numbers g c = numbers_differ g.T.Item.number_of g.T.Item.is_finished g.T.Item.is_good

pub returns-clause-finished : goal.returns-clause-finished
returns-clause-finished g c = finished_is_held_by_none g.T.Item.number_of g.T.Item.is_finished g.T.Item.is_good
