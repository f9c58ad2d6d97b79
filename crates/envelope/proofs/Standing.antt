-- What a fold stands for after one place was changed.
use Rattle.std.proofs.Common.{◌≡◌, ◌≢◌, ◌∙◌, ℕ, ◌+◌, ◌*◌, ◌/◌, ◌<◌, ◌≤◌, sym, ap, subst, true, List, [], length, get_or, replicate, Option, Some, None, arith}
use Rattle.std.proofs.lemmas.Int.{ints}
use Rattle.std.proofs.lemmas.List.{get_or-replicate, length-replicate}
use Rattle.std.proofs.lemmas.Nat.{le-div}
use Rattle.std.proofs.Math.Nat.{div-mul-le_self}
use Rattle.case_model.specs.Samples.{Sample}
use Rattle.envelope.specs.Folds.{probes_of}
use Rattle.envelope.specs.Cells.{is_within, cell_of, IsRising, IsLaidOut}
use Rattle.envelope.specs.Extremes.{either, HasExtreme, unmet}
use Rattle.envelope.specs.Layout.{IsStanding, marks_in, lines_in}
use Rattle.envelope.specs.Lines.{told, HasSamples, IsMarked}
use Rattle.envelope.specs.declared.extremes.Extreme.{Extreme}
use Rattle.envelope.specs.declared.folds.Fold.{Fold}
use Rattle.envelope.specs.declared.samples.Sample.{Sample as Kept}
use Rattle.envelope.proofs.Joined.{same-extreme}
use Rattle.envelope.proofs.Sampled.{one-place}

pub standing-here : (spans : List (ℕ × ℕ)) (bases : List ℕ) (steps every : ℕ) (marks : List (Option ℕ)) (cells new : List Extreme) (samples lines : List (List (Option Kept))) (place cell : ℕ) (f g : ℕ → Option Sample)
    → cell ≡ cell_of spans bases place
    → (HasExtreme f steps (get_or cells cell unmet) → HasExtreme (either f g) steps (get_or new cell unmet))
    → ((line : ℕ) → get_or marks cell None ≡ Some line → HasSamples f steps every (get_or samples line []) → HasSamples (either f g) steps every (get_or lines line []))
    → IsStanding spans bases steps every marks cells samples place f → IsStanding spans bases steps every marks new lines place (either f g)
standing-here spans bases steps every marks cells new samples lines place cell f g e join line p = record {
  envelope = subst (λ c. HasExtreme (either f g) steps (get_or new c unmet)) e (join (subst (λ c. HasExtreme f steps (get_or cells c unmet)) (sym e) p.envelope));
  line_has = λ l q. line l (ap (λ c. get_or marks c None) e ∙ q) (p.line_has l q);
}

pub standing-elsewhere : (spans : List (ℕ × ℕ)) (bases probes : List ℕ) (steps every : ℕ) (marks : List (Option ℕ)) (cells new : List Extreme) (samples lines : List (List (Option Kept))) (place cell k count : ℕ) (f : ℕ → Option Sample)
    → IsRising spans → IsLaidOut spans bases → IsMarked spans bases probes count marks → is_within spans place ≡ true → is_within spans k ≡ true → k ≢ place
    → cell ≡ cell_of spans bases place
    → ((c : ℕ) → c ≢ cell → get_or new c unmet ≡ get_or cells c unmet)
    → ((line : ℕ) → get_or marks cell None ≢ Some line → get_or lines line [] ≡ get_or samples line [])
    → IsStanding spans bases steps every marks cells samples k f → IsStanding spans bases steps every marks new lines k f
standing-elsewhere spans bases probes steps every marks cells new samples lines place cell k count f r o m wp wk n e others line p = record {
  envelope = subst (λ x. HasExtreme f steps x) (sym (others (cell_of spans bases k) (λ q. n (one-place spans bases k place r o wk wp (q ∙ e))))) p.envelope;
  line_has = λ l q. subst (λ xs. HasSamples f steps every xs)
      (sym (line l (λ h. n (one-place spans bases k place r o wk wp (sym (m.own (cell_of spans bases k) l q).1 ∙ (m.own cell l h).1 ∙ e)))))
      (p.line_has l q);
}

pub same-standing : (spans : List (ℕ × ℕ)) (bases : List ℕ) (steps every : ℕ) (marks : List (Option ℕ)) (cells : List Extreme) (samples : List (List (Option Kept))) (k : ℕ) (f g : ℕ → Option Sample)
    → ((s : ℕ) → s ≤ steps → f s ≡ g s) → IsStanding spans bases steps every marks cells samples k f → IsStanding spans bases steps every marks cells samples k g
same-standing spans bases steps every marks cells samples k f g h p = record {
  envelope = same-extreme f g steps _ h p.envelope;
  line_has = λ l q j b w. p.line_has l q j b w ∙ h (j * every) w;
}

pub line-there : (fold : Fold) (c line : ℕ) → get_or (marks_in fold) c None ≡ Some line → line < length (lines_in fold)
line-there fold c line e = let a : line < length (probes_of fold) = (fold.marked.own c line e).0 in let b = fold.lined.lines in omega arith

pub line-width : (fold : Fold) (c line : ℕ) → get_or (marks_in fold) c None ≡ Some line → length (get_or (lines_in fold) line []) ≡ fold.steps / fold.every + 1
line-width fold c line e = fold.lined.widths line (fold.marked.own c line e).0

pub in-line : (fold : Fold) (c line step : ℕ) → get_or (marks_in fold) c None ≡ Some line → step ≤ fold.steps → step / fold.every < length (get_or (lines_in fold) line [])
in-line fold c line step e l =
    let w = line-width fold c line e in
    let m = div-mul-le_self step fold.every in
    let g : 1 ≤ fold.every = fold.sampled in
    let d : step / fold.every ≤ fold.steps / fold.every = le-div (step / fold.every) fold.steps fold.every (omega arith) (omega arith) in
    omega arith

pub nothing-met : (f : ℕ → Option Sample) (last : ℕ) → ((s : ℕ) → f s ≡ None) → HasExtreme f last unmet
nothing-met f last h = record { unmet = λ l s w. h s; filled = λ l. absurd (omega (arith, ints)) }

blank-at : (width j : ℕ) → j < width → told (get_or (replicate width None) j None) ≡ None
blank-at width j l = ap told (get_or-replicate width j None None l)

pub blank-line : (f : ℕ → Option Sample) (last every width : ℕ) (line : List (Option Kept)) → ((s : ℕ) → f s ≡ None) → line ≡ replicate width None → HasSamples f last every line
blank-line f last every width line h e = λ j l w.
    let m : j < width = omega (arith, ap length e, length-replicate {A = Option Kept}) in
    ap (λ xs. told (get_or xs j None)) e ∙ blank-at width j m ∙ sym (h (j * every))
