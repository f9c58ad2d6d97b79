use Rattle.std.proofs.Common.{arith, length, ◌<◌}
use Rattle.case_lines.specs.Texts.{is_blank}
use Rattle.case_lines.proofs.FirstPart.{parts_none, parts_first, shorter}
use Rattle.case_lines.proofs.cutting.cut_at_blank.Goals as goal

pub returns-then-end-text : goal.returns-then-end-text
returns-then-end-text c = parts_none is_blank c.args.text.now c.blank_place-end.result c.blank_place-end.ensures.value c.if-end-text.true

pub returns : goal.returns
returns c =
    let h : c.blank_place-end.result < length c.args.text.now = omega arith in
    (parts_first is_blank c.args.text.now c.blank_place-end.result c.blank_place-end.ensures.value h, shorter c.args.text.now c.blank_place-end.result h)
