use Rattle.std.proofs.Common.{◌≡◌, ◌==◌, ◌<◌, [], length, refl, sym, arith}
use Rattle.std.specs.List.{position_or_len}
use Rattle.std.proofs.lemmas.Bool.Decides.{nat_tests}
use Rattle.std.proofs.lemmas.List.Sums.{position_or_len_is}
use Rattle.case_lines.specs.Texts.{fields_of, parts_of}
use Rattle.case_lines.proofs.FirstPart.{parts_first, shorter}
use Rattle.case_lines.proofs.LinesCut.{lines_more, fields_more, fields_none}
use Rattle.case_lines.proofs.Rules.{no_field}
use Rattle.case_lines.proofs.lines.next_line.Goals as goal

pub invariant_of-result : goal.invariant_of-result
invariant_of-result c = rw c.new-fields.ensures.items (no_field [] refl)

pub returns-then-text-eq10 : goal.returns-then-text-eq10
unfolding fields_of parts_of
returns-then-text-eq10 c =
    let text = c.args.text.now in
    let h : 0 < length text = grind (arith, nat_tests) in
    let e : 0 ≡ position_or_len (λ b. b == 10) text =
    sym (position_or_len_is (λ b. b == 10) text 0 0 (omega arith) (λ k l. absurd (omega arith)) (λ _. grind arith)) in
    (rw c.new-fields.ensures.items (fields_more text [] _ [] (lines_more text [] _ (parts_first (λ b. b == 10) text 0 e h)) refl), shorter text 0 h)

pub returns-in_ok-line_of-in-Some : goal.returns-in_ok-line_of-in-Some
returns-in_ok-line_of-in-Some c =
    (fields_more c.args.text.now c.in-Some.line.now c.in-Some.others.now c.in_ok-line_of-in-Some.field-0 c.in-Some.ensures.0 c.in_ok-line_of-in-Some.ensures, c.in-Some.ensures.1)

pub returns-in-None : goal.returns-in-None
returns-in-None c = fields_none c.args.text.now c.in-None.ensures
