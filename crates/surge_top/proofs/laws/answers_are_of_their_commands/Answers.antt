use Rattle.std.proofs.Common.{ap}
use Rattle.regions.specs.declared.shapes.Layout.{Layout}
use Rattle.report.specs.MeshText.{mesh_text}
use Rattle.surge_top.specs.Answer.{Answer, answer}
use Rattle.surge_top.proofs.Answering.{run_answer, same_answer}
use Rattle.surge_top.proofs.laws.answers_are_of_their_commands.Goals as goal

pub returns-clause-options : goal.returns-clause-options
returns-clause-options c = λ words others bytes job other w o k n f. same_answer words others bytes job other w o k n f

pub returns-clause-runs : goal.returns-clause-runs
returns-clause-runs c = λ words others bytes job other w o k l. run_answer words others bytes job other w o k l

pub returns-clause-schemes : goal.returns-clause-schemes
unfolding answer
returns-clause-schemes c = λ words others bytes job other case mesh s t k l e.
    rw (s.named, t.named, s.meant, t.meant, k, l) (ap (λ (layout : Layout). let told : Answer = record { text = mesh_text case mesh layout; status = 0 } in told) e)
