use Rattle.std.proofs.Common.{ap, ◌∙◌, sym}
use Rattle.std.specs.HashSet.{contains}
use Rattle.case_rules.specs.Said.{named_by}
use Rattle.case_rules.specs.Known.{same_key}
use Rattle.case_rules.proofs.Tallied.{added}
use Rattle.case_rules.proofs.tally.add_kind.Goals as goal

pub returns-in_ok-insert : goal.returns-in_ok-insert
returns-in_ok-insert c = λ part name.
    c.in_ok-insert.ensures.updates.0 (part, name)
    ∙ added part c.in-Some.part name.now c.field.result.now c.args.line.now (contains same_key c.args.kinds.now (part, name))
    (sym (ap named_by c.directive_said.ensures) ∙ sym c.named_by.ensures ∙ c.in-Some.is) (rw (← c.count.ensures) c.if-count-gt1.true) c.field.ensures
