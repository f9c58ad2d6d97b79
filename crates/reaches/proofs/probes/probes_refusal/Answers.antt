use Rattle.case_model.specs.Sets.{any_below}
use Rattle.case_model.specs.Refusals.{probe_rules}
use Rattle.reaches.proofs.Least.{least_none, least_more}
use Rattle.reaches.proofs.probes.probes_refusal.Goals as goal

pub loop-probe-init : goal.loop-probe-init
loop-probe-init c = least_none (probe_rules c.args.decided.now.case.now)

pub loop-probe-preserved : goal.loop-probe-preserved
loop-probe-preserved c =
    let rules = probe_rules c.args.decided.now.case.now in
    let i = c.loop-probe.probe in
    least_more rules i c.lesser-least.result (c.lesser-least.ensures (any_below rules i) (rules i) c.loop-probe.invariant c.probe_refusal.ensures)
