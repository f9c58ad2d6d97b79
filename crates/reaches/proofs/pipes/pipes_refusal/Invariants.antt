use Rattle.case_model.specs.Sets.{any_below}
use Rattle.case_model.specs.Bounds.{LeastOrNone}
use Rattle.case_model.specs.Refusals.{pipe_rules}
use Rattle.reaches.proofs.pipes.pipes_refusal.Given as goal

abbrev pub invariant-loop-pipe : goal.invariant-loop-pipe
invariant-loop-pipe l = LeastOrNone (any_below (pipe_rules l.decided.case.now) l.pipe) l.least
