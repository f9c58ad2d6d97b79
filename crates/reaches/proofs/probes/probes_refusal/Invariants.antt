use Rattle.case_model.specs.Sets.{any_below}
use Rattle.case_model.specs.Bounds.{LeastOrNone}
use Rattle.case_model.specs.Refusals.{probe_rules}
use Rattle.reaches.proofs.probes.probes_refusal.Given as goal

abbrev pub invariant-loop-probe : goal.invariant-loop-probe
invariant-loop-probe l = LeastOrNone (any_below (probe_rules l.decided.case.now) l.probe) l.least
