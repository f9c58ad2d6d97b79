-- What is read of the probes of a fold.
use Rattle.std.proofs.Common.{◌≡◌, ◌∙◌, ℕ, ◌<◌, List, [], length, get_or, sym, ap, Option, Some, None, Box}
use Rattle.std.specs.declared.alloc.Global.{Global}
use Rattle.std.proofs.lemmas.List.{get_or_read}
use Rattle.envelope.specs.Probes.{lines_of, marks_of}
use Rattle.envelope.specs.declared.probes.Probes.{Probes}
use Rattle.envelope.specs.declared.samples.Sample.{Sample}

-- the line of a cell, read of the probes themselves
pub marked : (probes : Option (Box Probes Global)) (box : Box Probes Global) (seen : Probes) (cell : ℕ) (read : Option ℕ) (line : ℕ) → probes ≡ Some box → seen ≡ box.value
    → read ≡ get_or seen.marks.items cell None → read ≡ Some line → get_or (marks_of probes) cell None ≡ Some line
marked probes box seen cell read line p s r e =
    ap (λ q. get_or (marks_of q) cell None) p ∙ ap (λ v. get_or v.marks.items cell None) (sym s) ∙ sym r ∙ e

-- a line of samples that is there
pub read-line : (probes : Option (Box Probes Global)) (box : Box Probes Global) (seen : Probes) (line : ℕ) (read : List (Option Sample)) → probes ≡ Some box → seen ≡ box.value
    → line < length seen.lines.items → read ≡ get_or seen.lines.items line read → read ≡ get_or (lines_of probes) line []
read-line probes box seen line read p s l r =
    get_or_read seen.lines.items line read l r [] ∙ ap (λ v. get_or v.lines.items line []) s ∙ ap (λ q. get_or (lines_of q) line []) (sym p)
