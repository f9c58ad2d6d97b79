use Rattle.std.proofs.Common.{ap, sym, ◌∙◌}
use Rattle.case_rules.specs.Known.{single_in, is_earlier, line_told}
use Rattle.case_rules.proofs.Earlier.{single_earlier, no_single_in}
use Rattle.case_rules.proofs.judging.repeats_single.Goals as goal

pub returns-in-Some : goal.returns-in-Some
returns-in-Some c = λ all t.
    c.is_earlier.ensures ∙ ap (is_earlier c.args.before) (c.single_line.ensures ∙ ap line_told (rw c.deref.ensures.value (t.singles c.in-Some.single)))
    ∙ single_earlier c.args.line.now c.in-Some.single c.args.before all (sym (ap single_in c.directive_said.ensures) ∙ sym c.single_in.ensures ∙ c.in-Some.is)

pub returns-in-None : goal.returns-in-None
returns-in-None c = λ all t. no_single_in c.args.line.now _ (sym (ap single_in c.directive_said.ensures) ∙ sym c.single_in.ensures ∙ c.in-None.is)
