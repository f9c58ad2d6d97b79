use Rattle.std.proofs.Common.{◌+◌, take, arith, eq-eqb, sym, ◌∙◌}
use Rattle.std.proofs.lemmas.Bool.{ne_eqb}
use Rattle.case_lines.specs.Alone.{breaks_alone}
use Rattle.case_rules.specs.Said.{version_of}
use Rattle.case_rules.specs.Among.{directive_among, breaks_among}
use Rattle.case_rules.proofs.Rules.{line_blank, line_first, line_later}
use Rattle.case_rules.proofs.judging.judge.Goals as goal

pub returns-then-count-eq0 : goal.returns-then-count-eq0
returns-then-count-eq0 c = λ all t.
    line_blank (take c.args.before all) all (c.args.before + 1) c.args.line.now (ne_eqb (c.args.before + 1) 1 (λ e. absurd (omega arith))) (eq-eqb _ 0 (sym c.count.ensures ∙ c.if-count-eq0.true))

pub returns-then-before-eq0 : goal.returns-then-before-eq0
returns-then-before-eq0 c = λ all t.
    line_first (take c.args.before all) all (c.args.before + 1) c.args.line.now c.judge_line-alone.result
    (eq-eqb (c.args.before + 1) 1 (omega arith)) (rw t.version at c.judge_line-alone.ensures)

pub returns : goal.returns
returns c = λ all t.
    let fs = c.args.line.now in
    line_later (take c.args.before all) all (c.args.before + 1) fs c.lesser.result (ne_eqb (c.args.before + 1) 1 (λ e. absurd (omega arith)))
    (c.lesser.ensures.least (breaks_alone (version_of all) (c.args.before + 1) fs)
    (breaks_among (take c.args.before all) all (directive_among all fs) fs) (rw t.version at c.judge_line-alone.ensures)
    (rw (← t.version, ← c.directive_said.ensures, ← c.directive_in-directive.ensures) (c.judge_among.ensures all t)))
