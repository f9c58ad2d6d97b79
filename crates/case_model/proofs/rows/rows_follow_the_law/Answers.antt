use Rattle.std.proofs.Common.{ap}
use Rattle.case_model.proofs.RowLaws.{row-start, state-next, point-first, point-last, point-inside, points-good, states-good}
use Rattle.case_model.specs.Rows.{Row}
use Rattle.case_model.proofs.rows.rows_follow_the_law.Goals as goal

pub returns-clause-start_state : goal.returns-clause-start_state
returns-clause-start_state c = λ law k. ap (λ (r : Row). r.state k) (row-start law)

pub returns-clause-start_point : goal.returns-clause-start_point
returns-clause-start_point c = λ law p i. ap (λ (r : Row). (r.point p i)) (row-start law)

pub returns-clause-state : goal.returns-clause-state
returns-clause-state c = state-next

pub returns-clause-first : goal.returns-clause-first
returns-clause-first c = point-first

pub returns-clause-last : goal.returns-clause-last
returns-clause-last c = point-last

pub returns-clause-inside : goal.returns-clause-inside
returns-clause-inside c = point-inside

pub returns-clause-points_in_range : goal.returns-clause-points_in_range
returns-clause-points_in_range c = points-good

pub returns-clause-states_in_range : goal.returns-clause-states_in_range
returns-clause-states_in_range c = states-good
