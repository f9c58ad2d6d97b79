use Rattle.std.proofs.Common.{arith, ap, ◌∙◌}
use Rattle.case_writing.specs.CaseText.{pipe_text}
use Rattle.surge_io.proofs.Chains.{all_items, next_item, stopped_item}
use Rattle.case_writing.proofs.writing.add_pipes.Goals as goal

pub returns-in_err-add : goal.returns-in_err-add
returns-in_err-add g c =
    stopped_item (pipe_text c.args.nodes.now) c.args.pipes.now c.loop-pipe.pipe-index c.pipe-item.result (omega arith) (c.as_bytes.ensures ∙ c.pipe_line-line.ensures ∙ ap (pipe_text c.args.nodes.now) c.pipe-item.is) c.from_residual.ensures.0 c.loop-pipe.invariant c.in_err-add.ensures.added

pub loop-pipe-preserved : goal.loop-pipe-preserved
loop-pipe-preserved g c =
    next_item (pipe_text c.args.nodes.now) c.args.pipes.now c.loop-pipe.pipe-index c.pipe-item.result (omega arith) (c.as_bytes.ensures ∙ c.pipe_line-line.ensures ∙ ap (pipe_text c.args.nodes.now) c.pipe-item.is) c.loop-pipe.invariant c.in_ok-add.ensures.added

pub returns : goal.returns
returns g c = all_items (pipe_text c.args.nodes.now) c.args.pipes.now c.loop-pipe.pipe-index (omega arith) c.loop-pipe.invariant
