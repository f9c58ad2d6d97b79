use Rattle.regions.proofs.Blocking.{sections-in-order, stations-in-order}
use Rattle.regions.proofs.Sound.{laid_written}
use Rattle.regions.proofs.laws.blocks_are_in_order.Goals as goal

pub returns-clause-section : goal.returns-clause-section
returns-clause-section c = sections-in-order

pub returns-clause-station : goal.returns-clause-station
returns-clause-station c = stations-in-order

pub returns-clause-written : goal.returns-clause-written
returns-clause-written c = laid_written
