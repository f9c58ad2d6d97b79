use Rattle.std.proofs.Common.{arith, length, ◌<◌, ◌==◌}
use Rattle.case_lines.proofs.FirstPart.{parts_none, parts_first, shorter}
use Rattle.case_lines.proofs.cutting.cut_at_end.Goals as goal

pub returns-then-end-text-clause-parts : goal.returns-then-end-text-clause-parts
returns-then-end-text-clause-parts c = parts_none (λ b. b == 10) c.args.text.now c.mark_place-end.result c.mark_place-end.ensures.value c.if-end-text.true

pub returns-clause-parts : goal.returns-clause-parts
returns-clause-parts c =
    let h : c.mark_place-end.result < length c.args.text.now = omega arith in
    (parts_first (λ b. b == 10) c.args.text.now c.mark_place-end.result c.mark_place-end.ensures.value h, shorter c.args.text.now c.mark_place-end.result h)
