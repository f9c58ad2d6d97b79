-- What a fold keeps that was told the rows of a law.
use Rattle.std.proofs.Common.{◌≡◌, ◌≢◌, ◌∙◌, ℕ, ◌%◌, ◌<◌, ◌≤◌, ◌⊎◌, inl, inr, ℤ, refl, sym, ap, subst, true, false, List, [], ◌∷◌, length, map, get_or, Option, Some, None, arith, eq-eqb, ne_eqb}
use Rattle.std.specs.Prelude.{◌≤ℤ◌, ◌<ℤ◌}
use Rattle.std.proofs.lemmas.Bool.{false≢true, le-leb, lt-leb, false_from_ne_true, cases_eq}
use Rattle.std.proofs.lemmas.Int.{ints}
use Rattle.std.proofs.lemmas.List.{get_or_past, get_or-map, length-map}
use Rattle.std.proofs.Math.Bool.{and-false}
use Rattle.case_model.specs.declared.cases.Case.{Case}
use Rattle.case_model.specs.declared.cases.Probe.{Probe}
use Rattle.case_model.specs.declared.cases.ProbeAt.{ProbeAt}
use Rattle.case_model.specs.declared.cases.ProbeAt.TheVariants.{OnPipe, OnNode}
use Rattle.case_model.specs.declared.points.Point.{Point}
use Rattle.case_model.specs.declared.points.Point.TheVariants.{Good, Bad}
use Rattle.case_model.specs.declared.states.NodeState.{NodeState}
use Rattle.case_model.specs.declared.states.NodeState.TheVariants.{Good as GoodState, Bad as BadState}
use Rattle.case_model.proofs.FaultLaws.{first_fault-only, first_fault-None, first_fault-none_bad, first_fault-Some}
use Rattle.case_model.specs.FirstFault.{first_fault, IsFirstFault}
use Rattle.case_model.specs.Meaning.{Meaning}
use Rattle.case_model.specs.Mesh.{IsNumbered}
use Rattle.case_model.specs.Parts.{no_probe, probe_at}
use Rattle.case_model.proofs.PlaceLaws.{bad-at_node, bad-at_place, length-bad_places}
use Rattle.case_model.specs.Places.{is_bad, is_bad_state, bad_places}
use Rattle.case_model.specs.Rows.{Row, row}
use Rattle.case_model.specs.Samples.{Sample, taken_at, point_sample, node_sample, sample, IsEnvelope}
use Rattle.envelope.specs.Cells.{is_within, bases_of}
use Rattle.envelope.proofs.CellLaws.{within-first, below-first}
use Rattle.envelope.specs.Extremes.{HasExtreme, IsEnvelopeOf, extreme_over}
use Rattle.envelope.specs.Faults.{HasFault}
use Rattle.envelope.specs.Folds.{spans_of, probes_of, steps_of, every_of}
use Rattle.envelope.specs.Layout.{IsHeld, marks_in, lines_in}
use Rattle.envelope.specs.Kept.{extreme_kept, sample_kept}
use Rattle.envelope.specs.Notings.{Noted, column, taken, is_bad_noting}
use Rattle.envelope.specs.RowFolds.{HasRows, IsFoldOfCase}
use Rattle.case_model.specs.PlaceNumbers.{number_of, IsOn, place_at}
use Rattle.envelope.specs.Rows.{noting_at, rows_noted, extreme_at}
use Rattle.envelope.specs.declared.extremes.Extreme.{Extreme}
use Rattle.envelope.specs.declared.folds.Fold.{Fold}
use Rattle.envelope.proofs.Joined.{same-extreme}
use Rattle.envelope.proofs.Numbered.{at-number, number-within, number-at}
use Rattle.envelope.proofs.Overall.{envelope-is, is-envelope}
use Rattle.envelope.proofs.Read.{sampled-then, kept-past, kept-between}
use Rattle.envelope.proofs.Standing.{same-standing}
use Rattle.fixed_num.proofs.Between.{le_or_more}

-- ---- a fold has in memory what it has of maps that are the same at its steps and places

is-bad-same : (spans : List (ℕ × ℕ)) (last : ℕ) (map more : Noted) (fault : Option (ℕ × ℕ)) → ((s k : ℕ) → s ≤ last → is_within spans k ≡ true → map s k ≡ more s k) → HasFault spans last map fault → HasFault spans last more fault
is-bad-same spans last map more None h p = λ s k l w. ap is_bad_noting (sym (h s k l w)) ∙ p s k l w
is-bad-same spans last map more (Some fault) h p = record {
  within = p.within;
  inside = p.inside;
  bad = ap is_bad_noting (sym (h fault.0 fault.1 p.within p.inside)) ∙ p.bad;
  least = λ s k l w b. p.least s k l w (ap is_bad_noting (h s k l w) ∙ b);
}

pub held-same : (fold : Fold) (map more : Noted) → ((s k : ℕ) → s ≤ steps_of fold → is_within (spans_of fold) k ≡ true → map s k ≡ more s k) → IsHeld fold map → IsHeld fold more
held-same fold map more h p = record {
  places = λ k w.
      same-standing fold.spans.items (bases_of fold.spans.items) fold.steps fold.every (marks_in fold) fold.cells.items (lines_in fold) k (column map k) (column more k)
      (λ s l. ap taken (h s k l w)) (p.places k w);
  first_fault = is-bad-same (spans_of fold) (steps_of fold) map more fold.fault h p.first_fault;
}

-- ---- what is noted of a place, and whether it is Bad

pub noting-taken : (r : Row) (at : ProbeAt) → taken (Some (noting_at r at)) ≡ taken_at r at
noting-taken r (OnNode node) = refl
noting-taken r (OnPipe pipe place) = refl

pub noting-bad : (law : Meaning) (s : ℕ) (at : ProbeAt) → IsNumbered law.mesh → IsOn law.mesh at → is_bad_noting (Some (noting_at (row law s) at)) ≡ get_or (bad_places law s) (number_of law.mesh at) false
noting-bad law s (OnNode node) n h = sym (bad-at_node law s node h)
noting-bad law s (OnPipe pipe place) n h = sym (bad-at_place law s pipe place n h.0 h.1)

bad-noted : (law : Meaning) (s k : ℕ) → IsNumbered law.mesh → k < law.mesh.places → is_bad_noting (rows_noted law s k) ≡ get_or (bad_places law s) k false
bad-noted law s k n h =
    let a = number-at law.mesh k n h in
    noting-bad law s (place_at law.mesh k) n a.0 ∙ ap (λ i. get_or (bad_places law s) i false) a.1

-- a number past the last place is that of no Bad place
bad-below : (law : Meaning) (s k : ℕ) → IsNumbered law.mesh → get_or (bad_places law s) k false ≡ true → k < law.mesh.places
bad-below law s k n t = elim (le_or_more law.mesh.places k) [
  | inl h ↦ absurd (false≢true (sym (get_or_past (bad_places law s) k false (let l = length-bad_places law s n in omega arith)) ∙ t))
  | inr h ↦ h
]

-- ---- the first fault

pub fault-below : (law : Meaning) (last step place : ℕ) → IsNumbered law.mesh → first_fault law last ≡ Some (step, place) → place < law.mesh.places
fault-below law last step place n e = bad-below law step place n (first_fault-Some law last step place e).bad

pub fault-is : (law : Meaning) (last : ℕ) (fault : Option (ℕ × ℕ)) → IsNumbered law.mesh → HasFault ((0, law.mesh.places) ∷ []) last (rows_noted law) fault → fault ≡ first_fault law last
fault-is law last None n p =
    sym (first_fault-none_bad law last (λ s k l b.
    let w = bad-below law s k n b in
    false≢true (sym (p s k l (within-first ((0, law.mesh.places) ∷ []) law.mesh.places k refl w)) ∙ bad-noted law s k n w ∙ b)))
fault-is law last (Some fault) n p =
    let spans = (0, law.mesh.places) ∷ [] in
    let w = below-first ((0, law.mesh.places) ∷ []) law.mesh.places fault.1 refl p.inside in
    let f : IsFirstFault law last fault.0 fault.1 = record {
      within = p.within;
      bad = sym (bad-noted law fault.0 fault.1 n w) ∙ p.bad;
      least = λ s k l b.
          let v = bad-below law s k n b in
          p.least s k l (within-first spans law.mesh.places k refl v) (bad-noted law s k n v ∙ b);
    } in
    sym (first_fault-only law last fault.0 fault.1 f)

-- ---- extremes

point-there : (x : Point) → is_bad x ≡ false → point_sample x ≢ None
point-there (Good h qu qd v) b e = cc
point-there Bad b e = cc

state-there : (x : NodeState) → is_bad_state x ≡ false → node_sample x ≢ None
state-there (GoodState h v g) b e = cc
state-there BadState b e = cc

noting-there : (r : Row) (at : ProbeAt) → is_bad_noting (Some (noting_at r at)) ≡ false → taken_at r at ≢ None
noting-there r (OnNode node) b = state-there (r.state node) b
noting-there r (OnPipe pipe place) b = point-there (r.point pipe place) b

-- where there is no fault something is taken of each place at each step
pub taken-there : (law : Meaning) (last s : ℕ) (at : ProbeAt) → IsNumbered law.mesh → IsOn law.mesh at → first_fault law last ≡ None → s ≤ last → taken_at (row law s) at ≢ None
taken-there law last s at n h f l =
    noting-there (row law s) at (noting-bad law s at n h ∙ false_from_ne_true (get_or (bad_places law s) (number_of law.mesh at) false) (λ b. first_fault-None law last f s (number_of law.mesh at) l b))

pub column-is : (law : Meaning) (s : ℕ) (at : ProbeAt) → IsNumbered law.mesh → IsOn law.mesh at → column (rows_noted law) (number_of law.mesh at) s ≡ taken_at (row law s) at
column-is law s at n h = ap (λ p. taken (Some (noting_at (row law s) p))) (at-number law.mesh at n h) ∙ noting-taken (row law s) at

met : (f : ℕ → Option Sample) (last : ℕ) (e : Extreme) → f 0 ≢ None → HasExtreme f last e → (e.max <ℤ e.min) ⊎ (e.min ≤ℤ e.max) → e ≡ extreme_over f last
met f last e n p (inl h) = absurd (n (p.unmet h 0 (omega arith)))
met f last e n p (inr h) = envelope-is f last e (p.filled h)

either-order : (x y : ℤ) → (x <ℤ y) ⊎ (y ≤ℤ x)
either-order x y = grind (arith, ints)

pub extreme-met : (f : ℕ → Option Sample) (last : ℕ) (e : Extreme) → f 0 ≢ None → HasExtreme f last e → e ≡ extreme_over f last
extreme-met f last e n p = met f last e n p (either-order e.max e.min)

place-within : (law : Meaning) (fold : Fold) (at : ProbeAt) → HasRows law fold → IsOn law.mesh at → is_within (spans_of fold) (number_of law.mesh at) ≡ true
place-within law fold at r h = within-first (spans_of fold) law.mesh.places (number_of law.mesh at) r.spans (number-within law.mesh at r.numbered h)

pub extreme-is : (law : Meaning) (fold : Fold) (at : ProbeAt) → HasRows law fold → first_fault law (steps_of fold) ≡ None → IsOn law.mesh at → extreme_kept fold (number_of law.mesh at) ≡ extreme_at law (steps_of fold) at
unfolding extreme_at
extreme-is law fold at r f h =
    let k = number_of law.mesh at in
    extreme-met (λ s. taken_at (row law s) at) (steps_of fold) (extreme_kept fold k)
    (taken-there law (steps_of fold) 0 at r.numbered h f (omega arith))
    (same-extreme (column (rows_noted law) k) (λ s. taken_at (row law s) at) (steps_of fold) (extreme_kept fold k) (λ s l. column-is law s at r.numbered h) (r.stands.extremes k (place-within law fold at r h)))

pub envelope-at : (law : Meaning) (at : ProbeAt) (last : ℕ) (e : Extreme) → taken_at (row law 0) at ≢ None → e ≡ extreme_at law last at → IsEnvelope law at last e.max e.max_step e.min e.min_step e.volume e.volume_step
unfolding extreme_at
envelope-at law at last e n q =
    let p : IsEnvelopeOf (λ s. taken_at (row law s) at) last e = subst (λ x. IsEnvelopeOf (λ s. taken_at (row law s) at) last x) (sym q) (is-envelope (λ s. taken_at (row law s) at) last n) in
    record { greatest_head = p.greatest_head; least_head = p.least_head; greatest_volume = p.greatest_volume }

-- ---- samples

sample-then : (law : Meaning) (case : Case) (at : ProbeAt) (step : ℕ) → step % case.every ≡ 0 → step ≤ case.steps → sample law case at step ≡ taken_at (row law step) at
unfolding sample
sample-then law case at step h l = rw (eq-eqb (step % case.every) 0 h, le-leb step case.steps l) refl

sample-past : (law : Meaning) (case : Case) (at : ProbeAt) (step : ℕ) → case.steps < step → None ≡ sample law case at step
unfolding sample
sample-past law case at step h = rw (lt-leb step case.steps h, and-false) refl

sample-between : (law : Meaning) (case : Case) (at : ProbeAt) (step : ℕ) → step % case.every ≢ 0 → None ≡ sample law case at step
unfolding sample
sample-between law case at step h = rw (ne_eqb (step % case.every) 0 h) refl

probe-there : (law : Meaning) (case : Case) (fold : Fold) (j : ℕ) → IsFoldOfCase law case fold → j < length case.probes → j < length (probes_of fold)
probe-there law case fold j c h = omega (arith, ap length c.probes, length-map case.probes (λ (probe : Probe). number_of law.mesh probe.at))

probe-number : (law : Meaning) (case : Case) (fold : Fold) (j : ℕ) → IsFoldOfCase law case fold → j < length case.probes → get_or (probes_of fold) j 0 ≡ number_of law.mesh (probe_at case j).at
probe-number law case fold j c h =
    ap (λ ps. get_or ps j 0) c.probes ∙ get_or-map (λ (probe : Probe). number_of law.mesh probe.at) case.probes j no_probe 0 h

pub sample-is : (law : Meaning) (case : Case) (fold : Fold) (j step : ℕ) → HasRows law fold → IsFoldOfCase law case fold → j < length case.probes → sample_kept fold j step ≡ sample law case (probe_at case j).at step
sample-is law case fold j step r c h =
    let at = (probe_at case j).at in
    let k = get_or (probes_of fold) j 0 in
    let there = probe-there law case fold j c h in
    let e = probe-number law case fold j c h in
    let s = c.steps in
    let v = c.every in
    elim (le_or_more step (steps_of fold)) [
      | inl le ↦ elim (cases_eq (step % every_of fold) 0) [
        | inl m ↦
            r.stands.samples j step there ∙ sampled-then (rows_noted law) (every_of fold) (steps_of fold) k step m le
            ∙ ap (λ i. column (rows_noted law) i step) e ∙ column-is law step at r.numbered (c.on j h)
            ∙ sym (sample-then law case at step (subst (λ n. step % n ≡ 0) v m) (subst (λ n. step ≤ n) s le))
        | inr m ↦ sym (kept-between fold j step m) ∙ sample-between law case at step (subst (λ n. step % n ≢ 0) v m)
      ]
      | inr past ↦ sym (kept-past fold j step past) ∙ sample-past law case at step (subst (λ n. n < step) s past)
    ]
