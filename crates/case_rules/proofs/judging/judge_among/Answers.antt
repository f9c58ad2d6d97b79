use Rattle.std.proofs.Common.{take, sym, ◌∙◌}
use Rattle.case_rules.proofs.Rules.{among_counted}
use Rattle.case_rules.proofs.judging.judge_among.Goals as goal

pub returns : goal.returns
returns c = λ all t.
    rw c.in-Some.is (among_counted (take c.args.before all) all c.in-Some.directive c.args.line.now c.judge_counted.result
    (rw (← c.count.ensures) (sym c.has_count.ensures ∙ c.if-not-has_count.false)) (c.judge_counted.ensures all t))
