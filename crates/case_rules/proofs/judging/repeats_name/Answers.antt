use Rattle.std.proofs.Common.{refl, ap, sym, ◌∙◌}
use Rattle.case_rules.specs.Known.{is_earlier}
use Rattle.case_rules.proofs.Earlier.{name_earlier}
use Rattle.case_rules.proofs.judging.repeats_name.Goals as goal

pub returns-then-is_definition : goal.returns-then-is_definition
returns-then-is_definition c = λ all t.
    rw (sym c.is_definition.ensures ∙ c.if-is_definition.true)
    (c.is_earlier.ensures ∙ ap (is_earlier c.args.before) (c.copied.ensures ∙ c.get.ensures.value ∙ t.names c.field.result)
    ∙ name_earlier c.field.result.now c.args.before all ∙ rw c.field.ensures refl)
