-- What is read of a fold.
use Rattle.std.proofs.Common.{◌≡◌, ◌≢◌, ◌∙◌, ℕ, ◌/◌, ◌%◌, ◌<◌, ◌≤◌, inl, inr, refl, sym, ap, [], length, get_or, replicate, Option, Some, None, arith, eq-eqb, ne_eqb}
use Rattle.std.proofs.lemmas.Bool.{le-leb, lt-leb}
use Rattle.std.proofs.lemmas.List.{get_or-replicate, length-replicate, get_or_past}
use Rattle.std.proofs.Math.Bool.{and-false}
use Rattle.envelope.specs.Folds.{probes_of}
use Rattle.envelope.specs.Cells.{cell_of, bases_of}
use Rattle.envelope.specs.Extremes.{unmet}
use Rattle.envelope.specs.Layout.{IsHeld, line_in, marks_in, lines_in}
use Rattle.envelope.specs.Kept.{sample_kept}
use Rattle.envelope.specs.Lines.{entry_of, told}
use Rattle.envelope.specs.Notings.{Noted, column, taken, sample_over}
use Rattle.envelope.specs.declared.extremes.Extreme.{Extreme}
use Rattle.envelope.specs.declared.folds.Fold.{Fold}
use Rattle.envelope.proofs.Sampled.{whole-steps}
use Rattle.envelope.proofs.Standing.{in-line}
use Rattle.fixed_num.proofs.Between.{le_or_more}

pub sampled-then : (map : Noted) (every last place step : ℕ) → step % every ≡ 0 → step ≤ last → sample_over map every last place step ≡ taken (map step place)
unfolding sample_over
sampled-then map every last place step h l = rw (eq-eqb (step % every) 0 h, le-leb step last l) refl

pub past-sampled : (map : Noted) (every last place step : ℕ) → last < step → None ≡ sample_over map every last place step
unfolding sample_over
past-sampled map every last place step h = rw (lt-leb step last h, and-false) refl

pub between-sampled : (map : Noted) (every last place step : ℕ) → step % every ≢ 0 → None ≡ sample_over map every last place step
unfolding sample_over
between-sampled map every last place step h = rw (ne_eqb (step % every) 0 h) refl

pub sampled : (fold : Fold) (map : Noted) (probe step line : ℕ) → IsHeld fold map → probe < length (probes_of fold) → step ≤ fold.steps → step % fold.every ≡ 0
    → get_or (marks_in fold) (cell_of fold.spans.items (bases_of fold.spans.items) (get_or (probes_of fold) probe 0)) None ≡ Some line
    → told (get_or (get_or (lines_in fold) line []) (step / fold.every) None) ≡ sample_over map fold.every fold.steps (get_or (probes_of fold) probe 0) step
sampled fold map probe step line p l le m h =
    let w = whole-steps step fold.every m in
    (p.places (get_or (probes_of fold) probe 0) (fold.probed probe l)).line_has line h (step / fold.every)
    (in-line fold (cell_of fold.spans.items (bases_of fold.spans.items) (get_or (probes_of fold) probe 0)) line step h le) (omega arith)
    ∙ ap (column map (get_or (probes_of fold) probe 0)) w
    ∙ sym (sampled-then map fold.every fold.steps (get_or (probes_of fold) probe 0) step m le)

-- what is kept of a probe at a step that is sampled, and at others
pub kept-then : (fold : Fold) (probe step : ℕ) → step % fold.every ≡ 0 → step ≤ fold.steps
    → sample_kept fold probe step ≡ told (entry_of (lines_in fold) (line_in fold (get_or (probes_of fold) probe 0)) (step / fold.every))
unfolding sample_kept
kept-then fold probe step h l = rw (eq-eqb (step % fold.every) 0 h, le-leb step fold.steps l) refl

pub kept-past : (fold : Fold) (probe step : ℕ) → fold.steps < step → None ≡ sample_kept fold probe step
unfolding sample_kept
kept-past fold probe step h = rw (lt-leb step fold.steps h, and-false) refl

pub kept-between : (fold : Fold) (probe step : ℕ) → step % fold.every ≢ 0 → None ≡ sample_kept fold probe step
unfolding sample_kept
kept-between fold probe step h = rw (ne_eqb (step % fold.every) 0 h) refl

pub kept-line : (fold : Fold) (probe step line : ℕ) → step % fold.every ≡ 0 → step ≤ fold.steps
    → get_or (marks_in fold) (cell_of fold.spans.items (bases_of fold.spans.items) (get_or (probes_of fold) probe 0)) None ≡ Some line
    → told (get_or (get_or (lines_in fold) line []) (step / fold.every) None) ≡ sample_kept fold probe step
kept-line fold probe step line h l m = sym (kept-then fold probe step h l ∙ ap (λ o. told (entry_of (lines_in fold) o (step / fold.every))) m)

pub all-unmet : (n i : ℕ) → get_or (replicate n unmet) i unmet ≡ unmet
all-unmet n i = elim (le_or_more n i) [
  | inl h ↦ get_or_past (replicate n unmet) i unmet (omega (arith, length-replicate {A = Extreme}))
  | inr h ↦ get_or-replicate n i unmet unmet h
]

-- a probe has a line of samples
pub line-by : (o : Option ℕ) → o ≢ None → (line : ℕ) × (o ≡ Some line)
line-by None h = absurd (h refl)
line-by (Some line) h = (line, refl)
