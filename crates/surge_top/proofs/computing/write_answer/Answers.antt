use Rattle.std.proofs.Common.{refl, subst}
use Rattle.surge_top.specs.Answer.{computed}
use Rattle.surge_top.specs.Outcome.{HasAnswered}
use Rattle.surge_top.specs.Printing.{printed_text}
use Rattle.surge_top.specs.declared.status.Status.TheVariants.{Range, Done}
use Rattle.surge_top.proofs.Ending.{told_as}
use Rattle.surge_top.proofs.computing.write_answer.Goals as goal

pub returns-in-Some : goal.returns-in-Some
returns-in-Some g c =
    subst (λ fault. HasAnswered g.K.Sink.held g.K.Sink.faults c.ended.result c.args.out.now
    c.write_range.new.out (computed (printed_text c.args.printed c.args.case.now c.args.mesh.now) c.args.case.now c.args.mesh.now fault))
    c.in-Some.ensures.fault
    (told_as Range tt refl c.ended.ensures c.write_range.ensures)

pub returns-in-None : goal.returns-in-None
returns-in-None g c =
    subst (λ fault. HasAnswered g.K.Sink.held g.K.Sink.faults c.ended-in-None.result
    c.args.out.now c.write_rows.new.out (computed (printed_text c.args.printed c.args.case.now c.args.mesh.now) c.args.case.now c.args.mesh.now fault))
    c.in-None.ensures.fault
    (told_as Done tt refl c.ended-in-None.ensures c.write_rows.ensures)
