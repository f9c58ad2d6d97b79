use Rattle.case_model.specs.Runs.{IsCalmRun}
use Rattle.scheme.specs.Laws.{meaning_of}
use Rattle.scheme.proofs.runs.place_run.Given as goal

abbrev pub invariant-loop-i : goal.invariant-loop-i
invariant-loop-i g l = IsCalmRun (meaning_of l.case l.mesh) l.at.pipe l.at.place l.before l.i l.fn.now l.now
