use Rattle.std.proofs.Common.{◌≡◌, ap, sym, subst, ◌∙◌, true, List}
use Rattle.std.specs.Option.{is_some}
use Rattle.case_rules.specs.declared.singles.Given.{Given}
use Rattle.case_rules.specs.Known.{single_in, given_at}
use Rattle.case_rules.proofs.SinglesKept.{added_new, added_again, added_none, told_some}
use Rattle.case_rules.proofs.singles.add_single.Goals as goal

pub returns-in_ok-push : goal.returns-in_ok-push
returns-in_ok-push c = λ s.
    let given : Given = record { single = c.in-Some.single; before = c.args.before; text = c.field-text.result } in
    rw c.in_ok-push.ensures.items (added_new c.args.singles.now.items given c.args.line.now s (sym (ap single_in c.directive_said.ensures) ∙ sym c.single_in.ensures ∙ c.in-Some.is) c.field-text.ensures)

pub returns-else-is_none : goal.returns-else-is_none
returns-else-is_none c = λ s.
    let k : is_some (given_at c.args.singles.now.items c.in-Some.single) ≡ true =
    subst (λ (gs : List Given). is_some (given_at gs c.in-Some.single) ≡ true) c.deref.ensures.value
    (told_some _ (rw (← c.single_line.ensures) c.if-is_none.ensures)) in
    added_again c.args.singles.now.items c.in-Some.single c.args.before c.args.line.now s (sym (ap single_in c.directive_said.ensures) ∙ sym c.single_in.ensures ∙ c.in-Some.is) k

pub returns-in_default : goal.returns-in_default
returns-in_default c = λ s. added_none c.args.singles.now.items c.args.before c.args.line.now s (sym (ap single_in c.directive_said.ensures) ∙ sym c.single_in.ensures ∙ c.in_default.is)
