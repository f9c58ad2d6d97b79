-- What a fold stands for after points without a cavity.
use Rattle.std.proofs.Common.{◌≡◌, ◌≢◌, ◌∙◌, ℕ, ◌+◌, ◌-◌, ◌<◌, ◌≤◌, ◌⊎◌, inl, inr, refl, sym, ap, subst, true, false, zero, suc, List, [], ◌∷◌, length, map, get_or, Option, Some, None, Box, arith}
use Rattle.std.proofs.lemmas.List.{length-map}
use Rattle.case_model.specs.declared.points.Point.{Point}
use Rattle.case_model.specs.declared.points.Point.TheVariants.{Bad}
use Rattle.case_model.specs.declared.spots.Spot.{Spot}
use Rattle.case_model.specs.Places.{is_bad}
use Rattle.case_model.specs.Runs.{calm_at, calm_point}
use Rattle.case_model.specs.Samples.{Sample, point_sample}
use Rattle.envelope.specs.Calm.{Joins}
use Rattle.envelope.specs.Cells.{is_within, bases_of, cell_of, AreInOneSpan, IsRising, IsLaidOut}
use Rattle.envelope.specs.Extremes.{either, AgreeAlong, HasExtreme, unmet}
use Rattle.envelope.specs.Faults.{HasFault}
use Rattle.envelope.specs.Folds.{spans_of}
use Rattle.envelope.specs.Layout.{IsStanding, cell_in, marks_in}
use Rattle.envelope.specs.Probes.{marks_of}
use Rattle.envelope.specs.declared.folds.Fold.{Fold}
use Rattle.envelope.specs.declared.probes.Probes.{Probes}
use Rattle.std.specs.declared.alloc.Global.{Global}
use Rattle.std.specs.Option.{is_some}
use Rattle.envelope.specs.Lines.{HasSamples, IsMarked}
use Rattle.envelope.specs.Notings.{Noting, Noted, column, is_bad_noting, line_noted, taken, union, Agree}
use Rattle.envelope.specs.Notings.Noting.{OfPoint}
use Rattle.envelope.specs.declared.extremes.Extreme.{Extreme}
use Rattle.envelope.specs.declared.samples.Sample.{Sample as Kept}
use Rattle.envelope.proofs.Lined.{cell-on, line-within, part-at, part-before, part-past, part-then, still-inside, whole-line}
use Rattle.envelope.proofs.Noted.{columns-agree, nothing-more, taken-either}
use Rattle.envelope.proofs.Sampled.{one-place}
use Rattle.envelope.proofs.Standing.{same-standing, standing-here}
use Rattle.std.proofs.lemmas.Bool.{cases_eq}
use Rattle.fixed_num.proofs.Between.{le_or_more}

-- ---- none of these points is Bad

good-at : (spots : List Spot) (i : ℕ) → i < length spots → is_bad (calm_at spots i) ≡ false
good-at (s ∷ spots) zero h = refl
good-at (s ∷ spots) (suc i) h = good-at spots i (omega arith)
good-at [] i h = absurd (omega arith)

-- where a place stands to a line
place-in : (k first n : ℕ) → (k < first) ⊎ ((first + n ≤ k) ⊎ ((first ≤ k) × (k < first + n)))
place-in k first n = grind arith

pub line-outside : (step first : ℕ) (points : List Point) (s k : ℕ) → (k < first) ⊎ (first + length points ≤ k) → line_noted step first points s k ≡ None
line-outside step first points s k (inl h) = sym (whole-line step first points s k) ∙ part-before step first (length points) points s k h
line-outside step first points s k (inr h) = sym (whole-line step first points s k) ∙ part-past step first (length points) points s k h

line-then : (step first : ℕ) (points : List Point) (s k : ℕ) → s ≢ step → line_noted step first points s k ≡ None
line-then step first points s k h = sym (whole-line step first points s k) ∙ part-then step first (length points) points s k h

line-here : (step first : ℕ) (points : List Point) (s k : ℕ) → s ≡ step → first ≤ k → k < first + length points → line_noted step first points s k ≡ Some (OfPoint (get_or points (k - first) Bad))
line-here step first points s k e l h = sym (whole-line step first points s k) ∙ part-at step first (length points) points s k e l h

no-bad : (o : Option Noting) → o ≡ None → is_bad_noting o ≡ false
no-bad o e = ap is_bad_noting e

pub calm-good : (spans : List (ℕ × ℕ)) (last step first : ℕ) (spots : List Spot) → HasFault spans last (line_noted step first (map calm_point spots)) None
calm-good spans last step first spots s k l w =
    let points = map calm_point spots in
    let n : length points ≡ length spots = length-map spots calm_point in
    elim (cases_eq s step) [
      | inr e ↦ no-bad (line_noted step first points s k) (line-then step first points s k e)
      | inl e ↦ elim (place-in k first (length spots)) [
        | inl h ↦ no-bad (line_noted step first points s k) (line-outside step first points s k (inl h))
        | inr m ↦ elim m [
          | inl h ↦ no-bad (line_noted step first points s k) (line-outside step first points s k (inr (omega arith)))
          | inr h ↦
              let lo : first ≤ k = h.0 in
              let hi : k < first + length spots = h.1 in
              ap is_bad_noting (line-here step first points s k e lo (omega arith)) ∙ good-at spots (k - first) (omega arith)
        ]
      ]
    ]

-- ---- a place of the line, and another

pub standing-outside : (spans : List (ℕ × ℕ)) (bases probes : List ℕ) (steps every : ℕ) (marks : List (Option ℕ)) (cells new : List Extreme) (samples lines : List (List (Option Kept))) (cell n k count : ℕ) (f : ℕ → Option Sample)
    → IsMarked spans bases probes count marks
    → (cell_of spans bases k < cell) ⊎ (cell + n ≤ cell_of spans bases k)
    → ((c : ℕ) → (c < cell) ⊎ (cell + n ≤ c) → get_or new c unmet ≡ get_or cells c unmet)
    → ((l : ℕ) → ((i : ℕ) → i < n → get_or marks (cell + i) None ≢ Some l) → get_or lines l [] ≡ get_or samples l [])
    → IsStanding spans bases steps every marks cells samples k f → IsStanding spans bases steps every marks new lines k f
standing-outside spans bases probes steps every marks cells new samples lines cell n k count f m out others line p = record {
  envelope = subst (λ x. HasExtreme f steps x) (sym (others (cell_of spans bases k) out)) p.envelope;
  line_has = λ l q. subst (λ xs. HasSamples f steps every xs)
      (sym (line l (λ i h z.
      let e : cell_of spans bases k ≡ cell + i = sym (m.own (cell_of spans bases k) l q).1 ∙ (m.own (cell + i) l z).1 in
      elim out [ inl a ↦ absurd (omega arith) | inr a ↦ absurd (omega arith) ])))
      (p.line_has l q);
}

-- what a line of points leaves of the numbers of places in memory: of its own cells what was taken
-- before and the point, of the others what was there
pub record AreTaken (spans : List (ℕ × ℕ)) (bases : List ℕ) (every : ℕ) (marks : List (Option ℕ)) (cells new : List Extreme) (samples lines : List (List (Option Kept))) (cell step : ℕ) (spots : List Spot) : Type 0 where
  pub here : (i : ℕ) → i < length spots → Joins (get_or cells (cell + i) unmet) (get_or new (cell + i) unmet) step (calm_at spots i)
  pub others : (c : ℕ) → (c < cell) ⊎ (cell + length spots ≤ c) → get_or new c unmet ≡ get_or cells c unmet
  pub line_here : (i line last : ℕ) (f g : ℕ → Option Sample) → i < length spots → AgreeAlong f g → get_or marks (cell + i) None ≡ Some line
      → g step ≡ point_sample (calm_at spots i) → ((s : ℕ) → s ≢ step → g s ≡ None)
      → HasSamples f last every (get_or samples line []) → HasSamples (either f g) last every (get_or lines line [])
  pub line_others : (l : ℕ) → ((i : ℕ) → i < length spots → get_or marks (cell + i) None ≢ Some l) → get_or lines l [] ≡ get_or samples l []

before-cell : (spans : List (ℕ × ℕ)) (bases : List ℕ) (first n k i : ℕ) → IsRising spans → IsLaidOut spans bases → AreInOneSpan spans first n → is_within spans k ≡ true
    → (k < first) ⊎ (first + n ≤ k) → i < n → cell_of spans bases k ≢ cell_of spans bases first + i
before-cell spans bases first n k i r o a w (inl d) h e =
    let q = one-place spans bases k (first + i) r o w (line-within spans first n i a h) (e ∙ cell-on spans bases first n i r a h) in
    absurd (omega arith)
before-cell spans bases first n k i r o a w (inr d) h e =
    let q = one-place spans bases k (first + i) r o w (line-within spans first n i a h) (e ∙ cell-on spans bases first n i r a h) in
    absurd (omega arith)

apart : (c cell n : ℕ) → ((i : ℕ) → i < n → c ≢ cell + i) → (c < cell) ⊎ (cell + n ≤ c)
apart c cell n h = elim (le_or_more cell c) [
  | inr a ↦ inl a
  | inl a ↦ elim (le_or_more (cell + n) c) [
    | inl b ↦ inr b
    | inr b ↦ absurd (h (c - cell) (omega arith) (omega arith))
  ]
]

pub taken-at : (spans : List (ℕ × ℕ)) (bases probes : List ℕ) (steps every : ℕ) (marks : List (Option ℕ)) (cells new : List Extreme) (samples lines : List (List (Option Kept))) (cell step first k count : ℕ) (spots : List Spot) (noted : Noted)
    → IsRising spans → IsLaidOut spans bases → IsMarked spans bases probes count marks → AreInOneSpan spans first (length spots) → cell ≡ cell_of spans bases first → step ≤ steps
    → AreTaken spans bases every marks cells new samples lines cell step spots → Agree noted (line_noted step first (map calm_point spots)) → is_within spans k ≡ true
    → IsStanding spans bases steps every marks cells samples k (column noted k)
    → IsStanding spans bases steps every marks new lines k (column (union noted (line_noted step first (map calm_point spots))) k)
taken-at spans bases probes steps every marks cells new samples lines cell step first k count spots noted r o m a ce st t g w p =
    let points = map calm_point spots in
    let line = line_noted step first points in
    let n : length points ≡ length spots = length-map spots calm_point in
    let out = λ (d : (k < first) ⊎ (first + length spots ≤ k)).
    same-standing spans bases steps every marks new lines k (column noted k) (column (union noted line) k)
    (λ s l. nothing-more (noted s k) (line s k) (g s k) (ap taken (line-outside step first points s k (subst (λ z. (k < first) ⊎ (first + z ≤ k)) (sym n) d))))
    (standing-outside spans bases probes steps every marks cells new samples lines cell (length spots) k count (column noted k) m
    (apart (cell_of spans bases k) cell (length spots) (λ i h e. before-cell spans bases first (length spots) k i r o a w d h (e ∙ ap (λ c. c + i) ce)))
    t.others t.line_others p)
    in
    elim (place-in k first (length spots)) [
      | inl h ↦ out (inl h)
      | inr q ↦ elim q [
        | inl h ↦ out (inr h)
        | inr h ↦
            let lo : first ≤ k = h.0 in
            let hi : k < first + length spots = h.1 in
            let i = k - first in
            let b : i < length spots = omega arith in
            let f = column noted k in
            let e : first + i ≡ k = omega arith in
            let c : cell + i ≡ cell_of spans bases k = ap (λ z. z + i) ce ∙ cell-on spans bases first (length spots) i r a b ∙ ap (cell_of spans bases) e in
            let gs : column line k step ≡ point_sample (calm_at spots i) = ap taken (line-here step first points step k refl lo (omega arith)) in
            let gn : (s : ℕ) → s ≢ step → column line k s ≡ None = λ s z. ap taken (line-then step first points s k z) in
            let ag = columns-agree noted line k g in
            same-standing spans bases steps every marks new lines k (either f (column line k)) (column (union noted line) k)
            (λ s l. taken-either (noted s k) (line s k) (g s k))
            (standing-here spans bases steps every marks cells new samples lines k (cell + i) f (column line k) c
            (λ x. t.here i b f (column line k) steps st ag gs gn x)
            (λ l z x. t.line_here i l steps f (column line k) b ag z gs gn x)
            p)
      ]
    ]

-- ---- a fold's own cells and lines

pub cells-fit : (fold : Fold) (first n cell : ℕ) → AreInOneSpan (spans_of fold) first n → 0 < n → cell ≡ cell_in fold first → cell + n ≤ length fold.cells.items
cells-fit fold first n cell a h e =
    let i = n - 1 in
    let l = still-inside fold fold first n i cell (record { spans_are = refl; probes_are = refl; steps_are = refl; every_is = refl }) a (omega arith) e in
    let f : length fold.cells.items ≡ get_or (bases_of fold.spans.items) (length fold.spans.items) 0 = fold.filled in
    omega arith

pub own-line : (fold : Fold) (c d line : ℕ) → get_or (marks_in fold) c None ≡ Some line → get_or (marks_in fold) d None ≡ Some line → c ≡ d
own-line fold c d line p q = sym (fold.marked.own c line p).1 ∙ (fold.marked.own d line q).1

pub no-marks : (probes : Option (Box Probes Global)) → false ≡ is_some probes → marks_of probes ≡ []
no-marks None e = refl
no-marks (Some x) e = cc

unmarked : (marks : List (Option ℕ)) (c line : ℕ) → marks ≡ [] → get_or marks c None ≡ Some line → ⊥
unmarked marks c line e q = let z : get_or [] c None ≡ Some line = ap (λ m. get_or m c None) (sym e) ∙ q in cc

-- where there is no probe there is no line
pub taken-unmarked : (spans : List (ℕ × ℕ)) (bases : List ℕ) (every : ℕ) (marks : List (Option ℕ)) (cells new : List Extreme) (lines : List (List (Option Kept))) (cell step : ℕ) (spots : List Spot) → marks ≡ []
    → ((i : ℕ) → i < length spots → Joins (get_or cells (cell + i) unmet) (get_or new (cell + i) unmet) step (calm_at spots i))
    → ((c : ℕ) → (c < cell) ⊎ (cell + length spots ≤ c) → get_or new c unmet ≡ get_or cells c unmet)
    → AreTaken spans bases every marks cells new lines lines cell step spots
taken-unmarked spans bases every marks cells new lines cell step spots e here others = record {
  here = here;
  others = others;
  line_here = λ i line last f g h a q gs gn p. absurd (unmarked marks (cell + i) line e q);
  line_others = λ l h. refl;
}
