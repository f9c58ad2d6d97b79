use Rattle.case_model.specs.Sets.{any_below}
use Rattle.case_model.specs.Refusals.{pipe_rules}
use Rattle.reaches.proofs.Least.{least_none, least_more}
use Rattle.reaches.proofs.pipes.pipes_refusal.Goals as goal

pub loop-pipe-init : goal.loop-pipe-init
loop-pipe-init c = least_none (pipe_rules c.args.decided.now.case.now)

pub loop-pipe-preserved : goal.loop-pipe-preserved
loop-pipe-preserved c =
    let rules = pipe_rules c.args.decided.now.case.now in
    let i = c.loop-pipe.pipe in
    least_more rules i c.lesser-least.result (c.lesser-least.ensures (any_below rules i) (rules i) c.loop-pipe.invariant c.pipe_refusal.ensures)
