use Rattle.std.proofs.Common.{arith, ◌∙◌}
use Rattle.case_model.specs.Parts.{no_probe}
use Rattle.case_writing.specs.CaseText.{probe_text}
use Rattle.surge_io.proofs.Chains.{all_items, next_item, stopped_item}
use Rattle.case_writing.proofs.writing.add_probes.Goals as goal

pub returns-in_err-add : goal.returns-in_err-add
returns-in_err-add g c =
    stopped_item (probe_text c.args.pipes.now c.args.nodes.now) c.args.probes.now c.loop-probe.probe-index no_probe (omega arith) (c.as_bytes.ensures ∙ c.probe_line-line.ensures) c.from_residual.ensures.0 c.loop-probe.invariant c.in_err-add.ensures.added

pub loop-probe-preserved : goal.loop-probe-preserved
loop-probe-preserved g c =
    next_item (probe_text c.args.pipes.now c.args.nodes.now) c.args.probes.now c.loop-probe.probe-index no_probe (omega arith) (c.as_bytes.ensures ∙ c.probe_line-line.ensures) c.loop-probe.invariant c.in_ok-add.ensures.added

pub returns : goal.returns
returns g c = all_items (probe_text c.args.pipes.now c.args.nodes.now) c.args.probes.now c.loop-probe.probe-index (omega arith) c.loop-probe.invariant
