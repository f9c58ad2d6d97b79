use Rattle.case_model.specs.RangeLaws.{point_of-good, point_of-bad, state_of-good, state_of-bad}
use Rattle.case_model.proofs.ranges.good_is_in_range.Goals as goal

pub returns-clause-point : goal.returns-clause-point
returns-clause-point c = point_of-good

pub returns-clause-no_point : goal.returns-clause-no_point
returns-clause-no_point c = point_of-bad

pub returns-clause-state : goal.returns-clause-state
returns-clause-state c = state_of-good

pub returns-clause-no_state : goal.returns-clause-no_state
returns-clause-no_state c = state_of-bad
