use Rattle.std.proofs.Common.{ap, ◌∙◌}
use Rattle.case_rules.specs.Known.{text_told}
use Rattle.case_rules.proofs.tally.Tally.text.Goals as goal

pub returns : goal.returns
returns c = λ lines t. c.single_text.ensures ∙ ap text_told (rw c.deref.ensures.value (t.singles c.args.single))
