-- The points of a line that lies in one span.
use Rattle.std.proofs.Common.{◌≡◌, ◌≢◌, ◌∙◌, ℕ, ◌+◌, ◌-◌, ◌<◌, ◌≤◌, ◌⊎◌, inl, inr, refl, sym, ap, subst, true, List, length, get_or, Option, Some, None, arith, eq-eqb, ne_eqb, lt-ltb, le-ltb}
use Rattle.std.specs.Prelude.{◌==◌, ◌&&◌, nat_le, nat_lt, if◌then◌else◌}
use Rattle.std.proofs.Math.Bool.{and-false}
use Rattle.std.proofs.lemmas.Bool.{le-leb, lt-leb, cases_eq}
use Rattle.std.proofs.lemmas.List.{get_or_default}
use Rattle.case_model.specs.declared.points.Point.{Point}
use Rattle.case_model.specs.declared.points.Point.TheVariants.{Bad}
use Rattle.envelope.specs.Cells.{is_within, bases_of, cell_of, span_of, first_of_span, IsRising, IsLaidOut, IsPlaced, AreInSpan, AreInOneSpan}
use Rattle.envelope.proofs.CellLaws.{within-span}
use Rattle.envelope.specs.Folds.{IsSameFold, spans_of, steps_of}
use Rattle.envelope.specs.Layout.{IsHeld, cell_in, count_of_cells}
use Rattle.envelope.specs.Notings.{Noting, Noted, only, noted, line_noted, union, Agree}
use Rattle.envelope.specs.Notings.Noting.{OfPoint}
use Rattle.envelope.specs.declared.folds.Fold.{Fold}
use Rattle.envelope.proofs.Noted.{only-here, only-then, only-there}
use Rattle.envelope.proofs.Placed.{placed, at-most, laid-out}
use Rattle.envelope.proofs.RowFolds.{held-same}
use Rattle.envelope.proofs.Sampled.{alone}
use Rattle.fixed_num.proofs.Between.{le_or_more}
use Rattle.std.specs.Option.{option_or}
use Rattle.case_model.proofs.ListFacts.{option_or-assoc}

-- ---- the cells of places of one span

placed-in : (spans : List (ℕ × ℕ)) (first count i k : ℕ) → AreInSpan spans first count i → k < count → IsPlaced spans (first + k) i
placed-in spans first count i k p h = let a = p.there in let b = p.low in let d = p.high in record { there = a; low = omega arith; high = omega arith }

within-placed : (spans : List (ℕ × ℕ)) (place i : ℕ) → IsPlaced spans place i → is_within spans place ≡ true
within-placed spans place i p = within-span spans i place p.there p.low p.high

span-is : (spans : List (ℕ × ℕ)) (place i : ℕ) → IsRising spans → IsPlaced spans place i → span_of spans place ≡ i
span-is spans place i r p =
    let le = at-most spans place i p.there p.high in
    let q = placed spans place r (within-placed spans place i p) in
    elim (le_or_more i (span_of spans place)) [
      | inl w ↦ omega arith
      | inr w ↦ let a = r.apart (span_of spans place) i w p.there in let h = q.high in let l = p.low in absurd (omega arith)
    ]

pub line-within : (spans : List (ℕ × ℕ)) (first count k : ℕ) → AreInOneSpan spans first count → k < count → is_within spans (first + k) ≡ true
line-within spans first count k p h = within-placed spans (first + k) p.0 (placed-in spans first count p.0 k p.1 h)

pub first-within : (spans : List (ℕ × ℕ)) (first count : ℕ) → AreInOneSpan spans first count → 0 < count → is_within spans first ≡ true
first-within spans first count p h = let e : first + 0 ≡ first = omega arith in subst (λ k. is_within spans k ≡ true) e (line-within spans first count 0 p h)

cell-over : (spans : List (ℕ × ℕ)) (bases : List ℕ) (first k i : ℕ) → span_of spans first ≡ i → span_of spans (first + k) ≡ i → first_of_span spans i ≤ first → cell_of spans bases (first + k) ≡ cell_of spans bases first + k
unfolding cell_of
cell-over spans bases first k i e f l = rw (e, f) (omega arith)

pub cell-on : (spans : List (ℕ × ℕ)) (bases : List ℕ) (first count k : ℕ) → IsRising spans → AreInOneSpan spans first count → k < count → cell_of spans bases first + k ≡ cell_of spans bases (first + k)
cell-on spans bases first count k r p h =
    let e : first + 0 ≡ first = omega arith in
    let q = subst (λ n. IsPlaced spans n p.0) e (placed-in spans first count p.0 0 p.1 (omega arith)) in
    sym (cell-over spans bases first k p.0 (span-is spans first p.0 r q) (span-is spans (first + k) p.0 r (placed-in spans first count p.0 k p.1 h)) p.1.low)

pub cell-inside : (spans : List (ℕ × ℕ)) (bases : List ℕ) (place : ℕ) → IsRising spans → IsLaidOut spans bases → is_within spans place ≡ true → cell_of spans bases place < get_or bases (length spans) 0
unfolding cell_of
cell-inside spans bases place r o w =
    let p = placed spans place r w in
    let low = p.low in
    let high = p.high in
    let a = o.apart (span_of spans place) (length spans) p.there (omega arith) in
    omega arith

pub same-then : (a b c : Fold) → IsSameFold a b → IsSameFold b c → IsSameFold a c
same-then a b c p q = record {
  spans_are = q.spans_are ∙ p.spans_are;
  probes_are = q.probes_are ∙ p.probes_are;
  steps_are = q.steps_are ∙ p.steps_are;
  every_is = q.every_is ∙ p.every_is;
}

-- ---- the first points of a line

abbrev pub part : ℕ → ℕ → ℕ → List Point → Noted
part step first count points s k =
    if (s == step) && nat_le first k && nat_lt k (first + count) then Some (OfPoint (get_or points (k - first) Bad)) else None

pub part-at : (step first count : ℕ) (points : List Point) (s k : ℕ) → s ≡ step → first ≤ k → k < first + count → part step first count points s k ≡ Some (OfPoint (get_or points (k - first) Bad))
part-at step first count points s k e l h = rw (eq-eqb s step e, le-leb first k l, lt-ltb k (first + count) h) refl

pub part-then : (step first count : ℕ) (points : List Point) (s k : ℕ) → s ≢ step → part step first count points s k ≡ None
part-then step first count points s k e = rw (ne_eqb s step e) refl

pub part-before : (step first count : ℕ) (points : List Point) (s k : ℕ) → k < first → part step first count points s k ≡ None
part-before step first count points s k h = rw (lt-leb first k h, and-false) refl

pub part-past : (step first count : ℕ) (points : List Point) (s k : ℕ) → first + count ≤ k → part step first count points s k ≡ None
part-past step first count points s k h = rw (le-ltb k (first + count) h, and-false) refl

pub none-yet : (step first : ℕ) (points : List Point) (s k : ℕ) → part step first 0 points s k ≡ None
none-yet step first points s k = elim (le_or_more first k) [
  | inl h ↦ part-past step first 0 points s k (omega arith)
  | inr h ↦ part-before step first 0 points s k h
]

pub whole-line : (step first : ℕ) (points : List Point) (s k : ℕ) → part step first (length points) points s k ≡ line_noted step first points s k
unfolding line_noted
whole-line step first points s k = refl

-- where a place stands to the next point of a line
pub where-stands : (k next : ℕ) → (k < next) ⊎ ((k ≡ next) ⊎ (next < k))
where-stands k next = grind arith

next-point : (step first i : ℕ) (points : List Point) (d : Point) (s k : ℕ) → i < length points
    → option_or (part step first i points s k) (only step (first + i) (OfPoint (get_or points i d)) s k) ≡ part step first (i + 1) points s k
next-point step first i points d s k h =
    let x = OfPoint (get_or points i d) in
    elim (cases_eq s step) [
      | inr e ↦ alone (part step first i points s k) (only step (first + i) x s k) (only-then step (first + i) x s k e) ∙ part-then step first i points s k e ∙ sym (part-then step first (i + 1) points s k e)
      | inl e ↦ elim (where-stands k (first + i)) [
        | inl l ↦ alone (part step first i points s k) (only step (first + i) x s k) (only-there step (first + i) x s k (λ q. omega arith)) ∙ elim (le_or_more first k) [
          | inl w ↦ part-at step first i points s k e w l ∙ sym (part-at step first (i + 1) points s k e w (omega arith))
          | inr w ↦ part-before step first i points s k w ∙ sym (part-before step first (i + 1) points s k w)
        ]
        | inr m ↦ elim m [
          | inl q ↦
              ap (λ a. option_or a (only step (first + i) x s k)) (part-past step first i points s k (omega arith))
              ∙ ap (λ u. only step (first + i) x u k) e ∙ ap (λ u. only step (first + i) x step u) q ∙ only-here step (first + i) x
              ∙ sym (part-at step first (i + 1) points s k e (omega arith) (omega arith)
              ∙ (let j : k - first ≡ i = omega arith in ap (λ j. Some (OfPoint (get_or points j Bad))) j) ∙ ap (λ y. Some (OfPoint y)) (get_or_default points i Bad d h))
          | inr q ↦
              ap (λ a. option_or a (only step (first + i) x s k)) (part-past step first i points s k (omega arith))
              ∙ only-there step (first + i) x s k (λ r. omega arith) ∙ sym (part-past step first (i + 1) points s k (omega arith))
        ]
      ]
    ]

pub line-more : (map : Noted) (step first i : ℕ) (points : List Point) (d : Point) (s k : ℕ) → i < length points
    → noted (union map (part step first i points)) step (first + i) (OfPoint (get_or points i d)) s k ≡ union map (part step first (i + 1) points) s k
line-more map step first i points d s k h =
    option_or-assoc (map s k) (part step first i points s k) (only step (first + i) (OfPoint (get_or points i d)) s k) ∙ ap (λ a. option_or (map s k) a) (next-point step first i points d s k h)

pub same-first : (a b : Option Noting) (x : Noting) → b ≡ None → option_or a b ≡ Some x → a ≡ Some x
same-first None b x n e = sym n ∙ e
same-first (Some y) b x n e = e

line-point : (step first i : ℕ) (points : List Point) (d : Point) → i < length points → line_noted step first points step (first + i) ≡ Some (OfPoint (get_or points i d))
line-point step first i points d h =
    sym (whole-line step first points step (first + i)) ∙ part-at step first (length points) points step (first + i) refl (omega arith) (omega arith)
    ∙ (let j : first + i - first ≡ i = omega arith in ap (λ j. Some (OfPoint (get_or points j Bad))) j) ∙ ap (λ y. Some (OfPoint y)) (get_or_default points i Bad d h)

-- a line that agrees with a map does so point by point
pub line-agrees : (map : Noted) (step first i : ℕ) (points : List Point) (d : Point) → i < length points → Agree map (line_noted step first points)
    → Agree (union map (part step first i points)) (only step (first + i) (OfPoint (get_or points i d)))
line-agrees map step first i points d h g = λ s k a b p q.
    let x = OfPoint (get_or points i d) in
    elim (cases_eq s step) [
      | inr e ↦ let n = only-then step (first + i) x s k e in cc
      | inl e ↦ elim (cases_eq k (first + i)) [
        | inr f ↦ let n = only-there step (first + i) x s k f in cc
        | inl f ↦
            let w = ap (λ u. line_noted step first points u k) e ∙ ap (λ u. line_noted step first points step u) f ∙ line-point step first i points d h in
            let m = same-first (map s k) (part step first i points s k) a (part-past step first i points s k (omega arith)) p in
            let v = ap (λ u. only step (first + i) x u k) e ∙ ap (λ u. only step (first + i) x step u) f ∙ only-here step (first + i) x in
            let y = g s k a x m w in cc
      ]
    ]

pub held-yet : (fold : Fold) (map : Noted) (step first : ℕ) (points : List Point) → IsHeld fold map → IsHeld fold (union map (part step first 0 points))
held-yet fold map step first points p = held-same fold map (union map (part step first 0 points)) (λ s k l w. sym (alone (map s k) (part step first 0 points s k) (none-yet step first points s k))) p

pub held-on : (fold : Fold) (map : Noted) (step first i : ℕ) (points : List Point) (d : Point) → i < length points
    → IsHeld fold (noted (union map (part step first i points)) step (first + i) (OfPoint (get_or points i d))) → IsHeld fold (union map (part step first (i + 1) points))
held-on fold map step first i points d h p =
    held-same fold (noted (union map (part step first i points)) step (first + i) (OfPoint (get_or points i d))) (union map (part step first (i + 1) points)) (λ s k l w. line-more map step first i points d s k h) p

pub held-whole : (fold : Fold) (map : Noted) (step first i : ℕ) (points : List Point) → i ≡ length points → IsHeld fold (union map (part step first i points)) → IsHeld fold (union map (line_noted step first points))
held-whole fold map step first i points e p =
    held-same fold (union map (part step first i points)) (union map (line_noted step first points))
    (λ s k l w. ap (λ n. option_or (map s k) (part step first n points s k)) e ∙ ap (λ a. option_or (map s k) a) (whole-line step first points s k)) p

-- ---- the cells of a fold in which the first points were noted

pub still-within : (old fold : Fold) (first count i : ℕ) → IsSameFold old fold → AreInOneSpan (spans_of old) first count → i < count → is_within (spans_of fold) (first + i) ≡ true
still-within old fold first count i e p h = subst (λ s. is_within s (first + i) ≡ true) (sym e.spans_are) (line-within (spans_of old) first count i p h)

pub still-cell : (old fold : Fold) (first count i cell : ℕ) → IsSameFold old fold → AreInOneSpan (spans_of old) first count → i < count → cell ≡ cell_in old first → cell + i ≡ cell_in fold (first + i)
still-cell old fold first count i cell e p h c =
    ap (λ n. n + i) c ∙ cell-on (spans_of old) (bases_of old.spans.items) first count i old.rising p h
    ∙ ap (λ s. cell_of s (bases_of s) (first + i)) (sym e.spans_are)

pub still-inside : (old fold : Fold) (first count i cell : ℕ) → IsSameFold old fold → AreInOneSpan (spans_of old) first count → i < count → cell ≡ cell_in old first → cell + i < count_of_cells fold
still-inside old fold first count i cell e p h c =
    subst (λ n. n < count_of_cells fold) (sym (still-cell old fold first count i cell e p h c))
    (cell-inside (spans_of fold) (bases_of fold.spans.items) (first + i) fold.rising (laid-out fold.spans.items fold.rising) (still-within old fold first count i e p h))

-- ---- a line that changes nothing

held-still : (fold : Fold) (map : Noted) (step first : ℕ) (points : List Point) → ((s k : ℕ) → s ≤ steps_of fold → line_noted step first points s k ≡ None) → IsHeld fold map → IsHeld fold (union map (line_noted step first points))
held-still fold map step first points h p = held-same fold map (union map (line_noted step first points)) (λ s k l w. sym (alone (map s k) (line_noted step first points s k) (h s k l))) p

pub held-past : (fold : Fold) (map : Noted) (step first : ℕ) (points : List Point) → steps_of fold < step → IsHeld fold map → IsHeld fold (union map (line_noted step first points))
held-past fold map step first points h p =
    held-still fold map step first points (λ s k l. sym (whole-line step first points s k) ∙ part-then step first (length points) points s k (λ e. omega arith)) p

pub held-empty : (fold : Fold) (map : Noted) (step first : ℕ) (points : List Point) → length points ≡ 0 → IsHeld fold map → IsHeld fold (union map (line_noted step first points))
held-empty fold map step first points e p =
    held-still fold map step first points (λ s k l. sym (whole-line step first points s k) ∙ ap (λ n. part step first n points s k) e ∙ none-yet step first points s k) p
