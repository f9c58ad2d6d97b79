-- What a fold tells is what it has in memory.
use Rattle.std.proofs.Common.{◌≡◌, ◌∙◌, ℕ, ◌*◌, ◌/◌, ◌%◌, ◌<◌, ◌≤◌, inl, inr, sym, ap, true, [], length, get_or, Some, None, arith, mul-div_cancel}
use Rattle.std.proofs.Math.Nat.{mul-mod_left}
use Rattle.envelope.specs.Cells.{is_within, cell_of, bases_of}
use Rattle.envelope.specs.Folds.{Stands, spans_of, steps_of, probes_of}
use Rattle.envelope.specs.Kept.{extreme_kept, fault_kept, sample_kept}
use Rattle.envelope.specs.Layout.{IsHeld, marks_in, lines_in}
use Rattle.envelope.specs.Lines.{told, HasSamples}
use Rattle.envelope.specs.Notings.{Noted, column, sample_over}
use Rattle.envelope.specs.declared.folds.Fold.{Fold}
use Rattle.envelope.proofs.Placed.{laid-out}
use Rattle.envelope.proofs.Read.{between-sampled, kept-between, kept-line, kept-past, line-by, past-sampled, sampled, sampled-then}
use Rattle.envelope.proofs.RowFolds.{held-same}
use Rattle.envelope.proofs.Sampled.{one-place}
use Rattle.std.proofs.lemmas.Bool.{cases_eq}
use Rattle.fixed_num.proofs.Between.{le_or_more}

-- a line of samples is that of a probe, of which the fold tells each sample
line-held : (fold : Fold) (map : Noted) (k line : ℕ) → Stands fold map → is_within fold.spans.items k ≡ true
    → get_or (marks_in fold) (cell_of fold.spans.items (bases_of fold.spans.items) k) None ≡ Some line
    → HasSamples (column map k) fold.steps fold.every (get_or (lines_in fold) line [])
line-held fold map k line p w q = λ j b h.
    let own = fold.marked.own (cell_of fold.spans.items (bases_of fold.spans.items) k) line q in
    let at = get_or (probes_of fold) line 0 in
    let same = one-place fold.spans.items (bases_of fold.spans.items) at k fold.rising (laid-out fold.spans.items fold.rising) (fold.probed line own.0) w own.1 in
    let m : j * fold.every % fold.every ≡ 0 = mul-mod_left j fold.every in
    let some : 1 ≤ fold.every = fold.sampled in
    let d : j * fold.every / fold.every ≡ j = mul-div_cancel j (omega arith) in
    ap (λ i. told (get_or (get_or (lines_in fold) line []) i None)) (sym d)
    ∙ kept-line fold line (j * fold.every) line m h (ap (λ c. get_or (marks_in fold) c None) own.1 ∙ q)
    ∙ p.samples line (j * fold.every) own.0
    ∙ sampled-then map fold.every fold.steps at (j * fold.every) m h
    ∙ ap (λ i. column map i (j * fold.every)) same

pub held : {fold : Fold} {map : Noted} → Stands fold map → IsHeld fold map
unfolding extreme_kept fault_kept
held {fold} {map} p = record {
  places = λ k w. record { envelope = p.extremes k w; line_has = λ line q. line-held fold map k line p w q };
  first_fault = p.first_fault;
}

-- the sample of a probe is what is taken of its place, at the steps that are sampled
sample-told : (fold : Fold) (map : Noted) (probe step : ℕ) → IsHeld fold map → probe < length (probes_of fold)
    → sample_kept fold probe step ≡ sample_over map fold.every fold.steps (get_or (probes_of fold) probe 0) step
sample-told fold map probe step h l =
    let at = get_or (probes_of fold) probe 0 in
    elim (le_or_more step fold.steps) [
      | inl le ↦ elim (cases_eq (step % fold.every) 0) [
        | inl m ↦
            let a = line-by (get_or (marks_in fold) (cell_of fold.spans.items (bases_of fold.spans.items) at) None) (fold.marked.each probe l) in
            sym (kept-line fold probe step a.0 m le a.1) ∙ sampled fold map probe step a.0 h l le m a.1
        | inr m ↦ sym (kept-between fold probe step m) ∙ between-sampled map fold.every fold.steps at step m
      ]
      | inr past ↦ sym (kept-past fold probe step past) ∙ past-sampled map fold.every fold.steps at step past
    ]

pub tells : {fold : Fold} {map : Noted} → IsHeld fold map → Stands fold map
unfolding extreme_kept fault_kept
tells {fold} {map} h = record {
  extremes = λ k w. (h.places k w).envelope;
  samples = λ probe step l. sample-told fold map probe step h l;
  first_fault = h.first_fault;
}

-- a fold stands for maps that are the same at its steps and places
pub stands-same : (fold : Fold) (map more : Noted) → ((s k : ℕ) → s ≤ steps_of fold → is_within (spans_of fold) k ≡ true → map s k ≡ more s k)
    → Stands fold map → Stands fold more
stands-same fold map more h p = tells (held-same fold map more h (held p))
