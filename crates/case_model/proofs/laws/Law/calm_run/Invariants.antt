use Rattle.case_model.specs.Runs.{IsCalmRun}
use Rattle.case_model.proofs.laws.Law.calm_run.Given as goal

abbrev pub invariant-loop-k : goal.invariant-loop-k
invariant-loop-k g l =
    IsCalmRun (g.Self.Law.meaning l.self) l.pipe l.first l.before l.k l.fn.now l.now
