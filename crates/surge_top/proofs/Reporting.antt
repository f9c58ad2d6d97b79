-- What a fold keeps of the rows of an accepted case is what the definitions say of them.
use Rattle.std.proofs.Common.{◌≡◌, ◌∙◌, ℕ, ◌+◌, ◌%◌, ◌<◌, ◌≤◌, List, [], ◌∷◌, length, get_or, Option, Some, None, ap, sym, subst, refl, arith}
use Rattle.std.specs.Prelude.{IfSome}
use Rattle.std.specs.List.{All}
use Rattle.std.proofs.lemmas.List.{get_or-map, length-map}
use Rattle.case_model.specs.declared.cases.Case.{Case}
use Rattle.case_model.specs.declared.cases.Probe.{Probe}
use Rattle.case_model.specs.declared.cases.ProbeAt.{ProbeAt}
use Rattle.case_model.specs.declared.meshes.Mesh.{Mesh}
use Rattle.case_model.specs.FirstFault.{first_fault}
use Rattle.case_model.specs.Meaning.{Meaning}
use Rattle.case_model.specs.Mesh.{IsNumbered}
use Rattle.case_model.specs.Parts.{no_probe, probe_at}
use Rattle.case_model.specs.PlaceNumbers.{IsOn, number_of}
use Rattle.case_model.specs.Samples.{Sample, sample}
use Rattle.envelope.proofs.CellLaws.{within-first}
use Rattle.envelope.specs.Cells.{IsRising, end_of_span}
use Rattle.envelope.specs.Faults.{HasFault}
use Rattle.envelope.specs.Folds.{Stands, IsFoldOf, spans_of, steps_of}
use Rattle.envelope.specs.Kept.{extreme_kept, sample_kept}
use Rattle.envelope.specs.Lines.{AreWithin}
use Rattle.envelope.specs.RowFolds.{HasRows, IsFoldOfCase, probe_numbers}
use Rattle.envelope.specs.Rows.{rows_noted, extreme_at}
use Rattle.envelope.specs.declared.extremes.Extreme.{Extreme}
use Rattle.envelope.specs.declared.folds.Fold.{Fold}
use Rattle.case_model.specs.Accepted.{IsAccepted}
use Rattle.report.proofs.Numbers.{on_pipe}
use Rattle.report.specs.Places.{IsOnPipe}
use Rattle.report.specs.Report.{peak_text, report_text}
use Rattle.report.specs.Sizes.{IsSmall}

-- ---- the fold that is made

pub one_span : (count : ℕ) → count ≤ 400_000 → IsRising ((0, count) ∷ [])
one_span count h = record {
  apart = λ i j l b. absurd (omega arith);
  low = λ i l. let z : 0 ≡ i = omega arith in subst (λ k. end_of_span ((0, count) ∷ []) k ≤ 400_000) z (let e : 0 + count ≤ 400_000 = omega arith in e);
}

-- the law of place numbers: they lie below the count of places
abbrev pub BelowLaw : Type 0
BelowLaw = (mesh : Mesh) (at : ProbeAt) → IsNumbered mesh → IsOn mesh at → number_of mesh at < mesh.places

pub probes_within : (case : Case) (mesh : Mesh) (numbers : List ℕ) → BelowLaw → IsNumbered mesh → All (λ probe. IsOn mesh probe.at) case.probes → numbers ≡ probe_numbers mesh case → AreWithin ((0, mesh.places) ∷ []) numbers
probes_within case mesh numbers below n on e = λ p h.
    let l : p < length case.probes = omega (arith, ap length e, length-map case.probes (λ (probe : Probe). number_of mesh probe.at)) in
    let at = ap (λ ks. get_or ks p 0) e ∙ get_or-map (λ (probe : Probe). number_of mesh probe.at) case.probes p no_probe 0 l in
    within-first ((0, mesh.places) ∷ []) mesh.places (get_or numbers p 0) refl (subst (λ k. k < mesh.places) (sym at) (below mesh (probe_at case p).at n (on p no_probe l)))

-- ---- the report

-- the laws of folds over rows, and of a report's numbers
abbrev pub ExtremeLaw : Type 0
ExtremeLaw = (law : Meaning) (fold : Fold) (at : ProbeAt) → HasRows law fold → first_fault law (steps_of fold) ≡ None → IsOn law.mesh at → extreme_kept fold (number_of law.mesh at) ≡ extreme_at law (steps_of fold) at

abbrev pub SampleLaw : Type 0
SampleLaw = (law : Meaning) (case : Case) (fold : Fold) (j step : ℕ) → HasRows law fold → IsFoldOfCase law case fold → j < length case.probes → sample_kept fold j step ≡ sample law case (probe_at case j).at step

abbrev pub TextLaw : Type 0
TextLaw = (case : Case) (mesh : Mesh) (e f : ProbeAt → Extreme) (s t : ℕ → ℕ → Option Sample) → 0 < length mesh.pipes → ((at : ProbeAt) → IsOn mesh at → e at ≡ f at)
    → ((j step : ℕ) → j < length case.probes → step ≤ case.steps → step % case.every ≡ 0 → s j step ≡ t j step) → report_text case mesh e s ≡ report_text case mesh f t

abbrev pub PeakLaw : Type 0
PeakLaw = (case : Case) (mesh : Mesh) (e f : ProbeAt → Extreme) → 0 < length mesh.pipes → ((at : ProbeAt) → IsOnPipe mesh at → e at ≡ f at) → peak_text case mesh e ≡ peak_text case mesh f

-- what a fold keeps of a place is what the rows have there
abbrev Keeps : Meaning → Case → Fold → Mesh → Type 0
Keeps law case fold mesh = (at : ProbeAt) → IsOn mesh at → extreme_kept fold (number_of mesh at) ≡ extreme_at law case.steps at

kept_there : (law : Meaning) (case : Case) (fold : Fold) → ExtremeLaw → HasRows law fold → steps_of fold ≡ case.steps → first_fault law case.steps ≡ None → Keeps law case fold law.mesh
kept_there law case fold extremes rows e clear at h =
    extremes law fold at rows (subst (λ n. first_fault law n ≡ None) (sym e) clear) h ∙ ap (λ n. extreme_at law n at) e

-- the report of what a fold keeps is that of the rows, on one mesh
abbrev IsText : Meaning → Case → Fold → Mesh → Type 0
IsText law case fold mesh =
    IsAccepted case mesh → IsSmall case mesh → All (λ probe. IsOn mesh probe.at) case.probes → IsFoldOf ((0, mesh.places) ∷ []) (probe_numbers mesh case) case.steps case.every fold
    → report_text case mesh (λ at. extreme_kept fold (number_of mesh at)) (sample_kept fold) ≡ report_text case mesh (extreme_at law case.steps) (λ j step. sample law case (probe_at case j).at step)

text_over : (law : Meaning) (case : Case) (fold : Fold) → ExtremeLaw → SampleLaw → TextLaw → Stands fold (rows_noted law) → first_fault law case.steps ≡ None → IsText law case fold law.mesh
text_over law case fold extremes samples text told clear a small on given =
    let rows : HasRows law fold = record { numbered = a.numbered; spans = given.spans_are; stands = told } in
    let over : IsFoldOfCase law case fold = record { steps = given.steps_are; every = given.every_is; probes = given.probes_are; on = λ j h. on j no_probe h } in
    text case law.mesh (λ at. extreme_kept fold (number_of law.mesh at)) (extreme_at law case.steps) (sample_kept fold) (λ j step. sample law case (probe_at case j).at step)
    (omega (arith, small.same_pipes, a.some))
    (kept_there law case fold extremes rows given.steps_are clear)
    (λ j step h l m. samples law case fold j step rows over h)

pub text_is : (law : Meaning) (case : Case) (mesh : Mesh) (fold : Fold) → law.mesh ≡ mesh → ExtremeLaw → SampleLaw → TextLaw → Stands fold (rows_noted law) → first_fault law case.steps ≡ None
    → IsAccepted case mesh → IsSmall case mesh → All (λ probe. IsOn mesh probe.at) case.probes → IsFoldOf ((0, mesh.places) ∷ []) (probe_numbers mesh case) case.steps case.every fold
    → report_text case mesh (λ at. extreme_kept fold (number_of mesh at)) (sample_kept fold) ≡ report_text case mesh (extreme_at law case.steps) (λ j step. sample law case (probe_at case j).at step)
text_is law case mesh fold e extremes samples text told clear = subst (IsText law case fold) e (text_over law case fold extremes samples text told clear)

-- the same of the peak's line
abbrev IsPeak : Meaning → Case → Fold → Mesh → Type 0
IsPeak law case fold mesh =
    IsAccepted case mesh → IsSmall case mesh → IsFoldOf ((0, mesh.places) ∷ []) (probe_numbers mesh case) case.steps case.every fold
    → peak_text case mesh (λ at. extreme_kept fold (number_of mesh at)) ≡ peak_text case mesh (extreme_at law case.steps)

peak_over : (law : Meaning) (case : Case) (fold : Fold) → ExtremeLaw → PeakLaw → Stands fold (rows_noted law) → first_fault law case.steps ≡ None → IsPeak law case fold law.mesh
peak_over law case fold extremes peak told clear a small given =
    let rows : HasRows law fold = record { numbered = a.numbered; spans = given.spans_are; stands = told } in
    peak case law.mesh (λ at. extreme_kept fold (number_of law.mesh at)) (extreme_at law case.steps)
    (omega (arith, small.same_pipes, a.some))
    (λ at h. kept_there law case fold extremes rows given.steps_are clear at (on_pipe law.mesh at h))

pub peak_is : (law : Meaning) (case : Case) (mesh : Mesh) (fold : Fold) → law.mesh ≡ mesh → ExtremeLaw → PeakLaw → Stands fold (rows_noted law) → first_fault law case.steps ≡ None
    → IsAccepted case mesh → IsSmall case mesh → IsFoldOf ((0, mesh.places) ∷ []) (probe_numbers mesh case) case.steps case.every fold
    → peak_text case mesh (λ at. extreme_kept fold (number_of mesh at)) ≡ peak_text case mesh (extreme_at law case.steps)
peak_is law case mesh fold e extremes peak told clear = subst (IsPeak law case fold) e (peak_over law case fold extremes peak told clear)

-- the first fault, of a law and a step that are known by other names
pub fault_here : (law other : Meaning) (n last : ℕ) (o : Option (ℕ × ℕ)) → o ≡ first_fault law n → law ≡ other → n ≡ last → first_fault other last ≡ o
fault_here law other n last o h e k = sym (h ∙ ap (λ m. first_fault m n) e ∙ ap (λ s. first_fault other s) k)

-- ---- the first fault of a fold that was told all rows

-- the laws of folds over rows and of place numbers, for faults
abbrev pub FaultLaw : Type 0
FaultLaw = (law : Meaning) (last : ℕ) (fault : Option (ℕ × ℕ)) → IsNumbered law.mesh
    → HasFault ((0, law.mesh.places) ∷ []) last (rows_noted law) fault
    → fault ≡ first_fault law last

abbrev pub ThereLaw : Type 0
ThereLaw = (law : Meaning) (last step place : ℕ) → IsNumbered law.mesh
    → first_fault law last ≡ Some (step, place) → place < law.mesh.places

pub fault-told : (law : Meaning) (mesh : Mesh) (probes : List ℕ) (steps every : ℕ) (fold : Fold)
    (fault : Option (ℕ × ℕ)) → law.mesh ≡ mesh → IsNumbered mesh → FaultLaw
    → IsFoldOf ((0, mesh.places) ∷ []) probes steps every fold
    → HasFault (spans_of fold) (steps_of fold) (rows_noted law) fault
    → fault ≡ first_fault law steps
fault-told law mesh probes steps every fold fault same numbered tells given has =
    tells law steps fault (subst IsNumbered (sym same) numbered)
    (subst (λ (m : Mesh). HasFault ((0, m.places) ∷ []) steps (rows_noted law) fault) (sym same)
    (subst (λ spans. HasFault spans steps (rows_noted law) fault) given.spans_are
    (subst (λ last. HasFault (spans_of fold) last (rows_noted law) fault) given.steps_are has)))

pub fault-there : (law : Meaning) (mesh : Mesh) (last : ℕ) (fault : Option (ℕ × ℕ))
    → law.mesh ≡ mesh → IsNumbered mesh → ThereLaw → fault ≡ first_fault law last
    → IfSome fault (λ at. at.1 < mesh.places)
fault-there law mesh last (Some (step, place)) same numbered there is =
    subst (λ (m : Mesh). place < m.places) same
    (there law last step place (subst IsNumbered (sym same) numbered) (sym is))
fault-there law mesh last None same numbered there is = tt
