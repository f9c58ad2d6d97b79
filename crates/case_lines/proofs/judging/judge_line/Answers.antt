use Rattle.std.proofs.lemmas.Bool.{ne_eqb}
use Rattle.case_lines.proofs.Rules.{alone_known}
use Rattle.case_lines.proofs.judging.judge_line.Goals as goal

pub returns : goal.returns
returns c =
    alone_known c.args.version c.args.number c.args.line.now c.judge_known.result
    (ne_eqb c.args.number 1 c.if-number-eq1.false)
    (ne_eqb _ 0 (rw (← c.count.ensures) c.if-count-eq0.false))
    (rw (← c.directive.ensures, ← c.directive_in.ensures, ← c.fields-2.ensures) c.judge_known.ensures)
