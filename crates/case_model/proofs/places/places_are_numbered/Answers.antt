use Rattle.case_model.proofs.PlaceLaws.{bad-at_node, bad-at_place, length-bad_places}
use Rattle.case_model.proofs.places.places_are_numbered.Goals as goal

pub returns-clause-node : goal.returns-clause-node
returns-clause-node c = bad-at_node

pub returns-clause-place : goal.returns-clause-place
returns-clause-place c = bad-at_place

pub returns-clause-all : goal.returns-clause-all
returns-clause-all c = length-bad_places
