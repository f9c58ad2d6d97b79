-- The first line of a text, and the lines behind it.
use Rattle.std.proofs.Common.{ℕ, ◌<◌, ◌≡◌, ◌==◌, false, Bool, List, [], ◌∷◌, length, map, ap, ◌∙◌, refl, arith}
use Rattle.std.specs.List.{slice_split}
use Rattle.std.proofs.lemmas.Bool.{ne_eqb}
use Rattle.std.proofs.lemmas.List.Splits.{length-slice_split}
use Rattle.case_lines.specs.Texts.{lines_between, text_lines, fields_of, lines_of}

some_part : (p : ℕ → Bool) (text : List ℕ) → 0 < length (slice_split p text)
some_part p text = omega (arith, length-slice_split p text)

between_more : (line : List ℕ) (ps : List (List ℕ)) → 0 < length ps → lines_between (line ∷ ps) ≡ line ∷ lines_between ps
between_more line [] h = absurd (omega arith)
between_more line (p ∷ ps) h = refl

-- a line with its line end stands before the lines of the text behind it
pub lines_more : (text line rest : List ℕ) → slice_split (λ b. b == 10) text ≡ line ∷ slice_split (λ b. b == 10) rest → text_lines text ≡ line ∷ text_lines rest
unfolding text_lines
lines_more text line rest e = ap lines_between e ∙ between_more line (slice_split (λ b. b == 10) rest) (some_part (λ b. b == 10) rest)

pub lines_none : text_lines [] ≡ []
unfolding text_lines
lines_none = refl

-- a text without a line end is one line
pub lines_last : (text line : List ℕ) → slice_split (λ b. b == 10) text ≡ line ∷ [] → line ≡ text → 0 < length text → text_lines text ≡ line ∷ text_lines []
unfolding text_lines
lines_last text line e i h =
    let n : (length line == 0) ≡ false = rw i (ne_eqb (length text) 0 (λ z. absurd (omega arith))) in
    ap lines_between e ∙ rw n refl

-- the fields of the first line stand before those of the lines behind it
pub fields_more : (text line rest : List ℕ) (fields : List (List ℕ)) → text_lines text ≡ line ∷ text_lines rest → fields ≡ fields_of line → lines_of text ≡ fields ∷ lines_of rest
unfolding lines_of
fields_more text line rest fields e f = rw f (ap (map fields_of) e)

pub fields_none : (text : List ℕ) → text_lines text ≡ [] → lines_of text ≡ []
unfolding lines_of
fields_none text e = ap (map fields_of) e
