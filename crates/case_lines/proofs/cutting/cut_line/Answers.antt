use Rattle.std.proofs.Common.{ℕ, ◌≡◌, ◌==◌, ◌<◌, List, [], ◌∷◌, length, true, false, arith, sym, ◌∙◌}
use Rattle.case_lines.specs.Texts.{text_lines}
use Rattle.case_lines.proofs.LinesCut.{lines_more, lines_last, lines_none}
use Rattle.case_lines.proofs.cutting.cut_line.Goals as goal

no_line : (text : List ℕ) → true ≡ (length text == 0) → text_lines text ≡ []
no_line [] h = lines_none
no_line (b ∷ text) h = absurd (grind arith)

some : (text : List ℕ) → false ≡ (length text == 0) → 0 < length text
some [] h = absurd (grind arith)
some (b ∷ text) h = omega arith

pub returns-then-is_empty : goal.returns-then-is_empty
returns-then-is_empty c = no_line c.args.text.now (sym c.if-is_empty.true ∙ c.is_empty.ensures)

pub returns-in-Some : goal.returns-in-Some
returns-in-Some c =
    let h = rw c.in-Some.is at c.cut_at_end.ensures.parts in
    (lines_more c.args.text.now c.cut_at_end.result.0.now c.in-Some.rest.now h.0, h.1)

pub returns-in-None : goal.returns-in-None
returns-in-None c =
    let h = rw c.in-None.is at c.cut_at_end.ensures.parts in
    let w = rw c.in-None.is at c.cut_at_end.ensures.whole in
    let s = some c.args.text.now (sym c.if-is_empty.false ∙ c.is_empty.ensures) in
    (lines_last c.args.text.now c.cut_at_end.result.0.now h w s, s)
