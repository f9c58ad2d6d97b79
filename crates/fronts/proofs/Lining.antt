-- A run of places as the line of points that a fold is told.
use Rattle.std.proofs.Common.{◌≡◌, ℕ, ◌+◌, ◌-◌, ◌<◌, ◌≤◌, ◌⊎◌, inl, inr, ◌∙◌, ap, sym, List, map, length, get_or, take, drop, refl, arith, Bool, true, false, cond, Some, None}
use Rattle.std.specs.Prelude.{◌≢◌}
use Rattle.std.proofs.Math.Bool.{and-false}
use Rattle.std.proofs.lemmas.Bool.{eq-eqb, ne_eqb, lt-ltb, le-ltb, le-leb, lt-leb, cases_eq}
use Rattle.std.proofs.lemmas.List.{length-drop, length-map, length-take-le}
use Rattle.case_model.specs.declared.points.Point.{Point}
use Rattle.case_model.specs.declared.points.Point.TheVariants.{Bad}
use Rattle.case_model.specs.declared.spots.Spot.{Spot}
use Rattle.case_model.specs.Runs.{calm_at, calm_point}
use Rattle.envelope.specs.Notings.{Noting, Noted, line_noted, noted, only, union, Agree}
use Rattle.envelope.specs.Notings.Noting.{OfPoint}
use Rattle.envelope.proofs.Noted.{only-here, only-then, only-there}
use Rattle.fronts.specs.declared.stretches.Stretch.{Stretch}
use Rattle.fronts.specs.Noted.{run_noted}
use Rattle.fronts.specs.Stretches.{count_of, is_even, kept, slot}
use Rattle.fronts.proofs.Keeping.{kept-calm}
use Rattle.fronts.proofs.Making.{part-at}
use Rattle.envelope.proofs.Lined.{where-stands, same-first}
use Rattle.envelope.proofs.Sampled.{alone}
use Rattle.std.specs.Option.{option_or}
use Rattle.case_model.proofs.ListFacts.{option_or-assoc}

-- a number is before these, behind them or among them
pub where-is : (k low high : ℕ) → (k < low) ⊎ ((high ≤ k) ⊎ ((low ≤ k) × (k < high)))
where-is k low high = grind arith

line-before : (first : ℕ) (points : List Point) (step s k : ℕ) → (s ≢ step) ⊎ ((k < first) ⊎ (first + length points ≤ k))
    → line_noted step first points s k ≡ None
unfolding line_noted
line-before first points step s k (inl h) = rw (ne_eqb s step h) refl
line-before first points step s k (inr (inl h)) = rw (lt-leb first k h, and-false) refl
line-before first points step s k (inr (inr h)) = rw (le-ltb k (first + length points) h, and-false) refl

line-in : (first : ℕ) (points : List Point) (step s k : ℕ) → s ≡ step → first ≤ k → k < first + length points
    → line_noted step first points s k ≡ Some (OfPoint (get_or points (k - first) Bad))
unfolding line_noted
line-in first points step s k e h b =
    rw (eq-eqb s step e, le-leb first k h, lt-ltb k (first + length points) b) refl

pub run-before : (stretch : Stretch) (step low high s k : ℕ) → (s ≢ step) ⊎ ((k < stretch.number + low) ⊎ (stretch.number + high ≤ k))
    → run_noted stretch step low high s k ≡ None
unfolding run_noted
run-before stretch step low high s k (inl h) = rw (ne_eqb s step h) refl
run-before stretch step low high s k (inr (inl h)) = rw (lt-leb (stretch.number + low) k h, and-false) refl
run-before stretch step low high s k (inr (inr h)) = rw (le-ltb k (stretch.number + high) h, and-false, and-false) refl

pub run-in : (stretch : Stretch) (step low high s k : ℕ) → s ≡ step → stretch.number + low ≤ k → k < stretch.number + high
    → run_noted stretch step low high s k ≡ Some (OfPoint (kept stretch step (k - stretch.number)))
unfolding run_noted
run-in stretch step low high s k e h b =
    rw (eq-eqb s step e, le-leb (stretch.number + low) k h, lt-ltb k (stretch.number + high) b) refl

-- the run is the line of the points of its places
pub run-line : (stretch : Stretch) (part : List Point) (step low high : ℕ) → low ≤ high → length part ≡ high - low
    → ((j : ℕ) → j < high - low → get_or part j Bad ≡ kept stretch step (low + j)) → (s k : ℕ)
    → line_noted step (stretch.number + low) part s k ≡ run_noted stretch step low high s k
run-line stretch part step low high l n at s k =
    elim (cases_eq s step) [
      | inl e ↦ elim (where-is k (stretch.number + low) (stretch.number + high)) [
        | inl h ↦
            line-before (stretch.number + low) part step s k (inr (inl h))
            ∙ sym (run-before stretch step low high s k (inr (inl h)))
        | inr a ↦ elim a [
          | inl h ↦
              line-before (stretch.number + low) part step s k (inr (inr (omega arith)))
              ∙ sym (run-before stretch step low high s k (inr (inr h)))
          | inr b ↦
              let lo : stretch.number + low ≤ k = b.0 in
              let hi : k < stretch.number + high = b.1 in
              line-in (stretch.number + low) part step s k e lo (omega arith)
              ∙ ap (λ y. Some (OfPoint y))
              (at (k - (stretch.number + low)) (omega arith) ∙ ap (kept stretch step) (omega arith))
              ∙ sym (run-in stretch step low high s k e lo hi)
        ]
      ]
      | inr h ↦
          line-before (stretch.number + low) part step s k (inl h)
          ∙ sym (run-before stretch step low high s k (inl h))
    ]

-- what agrees with the one agrees with the other
pub agrees-line : (map one other : Noted) → ((s k : ℕ) → other s k ≡ one s k) → Agree map one → Agree map other
agrees-line map one other e h s k x y a b = h s k x y a (sym (e s k) ∙ b)

pub same-union : (map one other : Noted) → ((s k : ℕ) → one s k ≡ other s k) → (s k : ℕ)
    → union map one s k ≡ union map other s k
same-union map one other e s k = rw (e s k) refl

-- what is kept where a test holds
pub value-of : (b : Bool) (v y : Noting) → cond b (Some v) None ≡ Some y → y ≡ v
value-of true v y e = cc
value-of false v y e = cc

-- ---- of a calm stretch

pub spots-kept : (stretch : Stretch) (spots : List Spot) (step low high from n j : ℕ) → stretch.calm ≡ true → spots ≡ stretch.spots.items
    → from ≡ slot (count_of stretch) (is_even step) 0 + low → n ≡ high - low → high ≤ count_of stretch → j < high - low
    → get_or (map calm_point (take n (drop from spots))) j Bad ≡ kept stretch step (low + j)
spots-kept stretch spots step low high from n j c e f m h b =
    part-at spots from n j (omega arith)
    ∙ ap (λ i. calm_at spots (i + j)) f
    ∙ ap (calm_at spots) (same-slot (count_of stretch) (is_even step) low j)
    ∙ ap (λ xs. calm_at xs (slot (count_of stretch) (is_even step) (low + j))) e
    ∙ sym (kept-calm stretch (is_even step) (low + j) c (omega arith))
  where
    same-slot : (count : ℕ) (even : Bool) (low j : ℕ) → slot count even 0 + low + j ≡ slot count even (low + j)
    same-slot count true low j = omega arith
    same-slot count false low j = omega arith

pub part-length : (spots : List Spot) (from n : ℕ) → from + n ≤ length spots → length (map calm_point (take n (drop from spots))) ≡ n
part-length spots from n h = length-map (take n (drop from spots)) calm_point ∙ length-take-le n (drop from spots) (omega (arith, length-drop from spots))

-- ---- place by place

pub none-noted : (stretch : Stretch) (step low s k : ℕ) → run_noted stretch step low low s k ≡ None
none-noted stretch step low s k = elim (where-is k (stretch.number + low) (stretch.number + low)) [
  | inl h ↦ run-before stretch step low low s k (inr (inl h))
  | inr a ↦ elim a [
    | inl h ↦ run-before stretch step low low s k (inr (inr h))
    | inr b ↦ let lo : stretch.number + low ≤ k = b.0 in let hi : k < stretch.number + low = b.1 in absurd (omega arith)
  ]
]

run-more : (stretch : Stretch) (step low place s k : ℕ) → low ≤ place
    → option_or (run_noted stretch step low place s k) (only step (stretch.number + place) (OfPoint (kept stretch step place)) s k) ≡ run_noted stretch step low (place + 1) s k
run-more stretch step low place s k l =
    let x = OfPoint (kept stretch step place) in
    let at = stretch.number + place in
    elim (cases_eq s step) [
      | inr e ↦
          alone (run_noted stretch step low place s k) (only step at x s k) (only-then step at x s k e)
          ∙ run-before stretch step low place s k (inl e) ∙ sym (run-before stretch step low (place + 1) s k (inl e))
      | inl e ↦ elim (where-stands k at) [
        | inl b ↦
            alone (run_noted stretch step low place s k) (only step at x s k) (only-there step at x s k (λ q. absurd (omega arith)))
            ∙ elim (where-is k (stretch.number + low) at) [
              | inl h ↦ run-before stretch step low place s k (inr (inl h)) ∙ sym (run-before stretch step low (place + 1) s k (inr (inl h)))
              | inr a ↦ elim a [
                | inl h ↦ absurd (omega arith)
                | inr h ↦
                    let lo : stretch.number + low ≤ k = h.0 in
                    run-in stretch step low place s k e lo b ∙ sym (run-in stretch step low (place + 1) s k e lo (omega arith))
              ]
            ]
        | inr a ↦ elim a [
          | inl q ↦
              ap (λ o. option_or o (only step at x s k)) (run-before stretch step low place s k (inr (inr (omega arith))))
              ∙ ap (λ u. only step at x u k) e ∙ ap (only step at x step) q ∙ only-here step at x
              ∙ ap (λ i. Some (OfPoint (kept stretch step i))) (omega arith)
              ∙ sym (run-in stretch step low (place + 1) s k e (omega arith) (omega arith))
          | inr b ↦
              ap (λ o. option_or o (only step at x s k)) (run-before stretch step low place s k (inr (inr (omega arith))))
              ∙ only-there step at x s k (λ q. absurd (omega arith))
              ∙ sym (run-before stretch step low (place + 1) s k (inr (inr (omega arith))))
        ]
      ]
    ]

pub noted-more : (map : Noted) (stretch : Stretch) (step low place s k : ℕ) → low ≤ place
    → noted (union map (run_noted stretch step low place)) step (stretch.number + place) (OfPoint (kept stretch step place)) s k
    ≡ union map (run_noted stretch step low (place + 1)) s k
noted-more map stretch step low place s k l =
    option_or-assoc (map s k) (run_noted stretch step low place s k) (only step (stretch.number + place) (OfPoint (kept stretch step place)) s k)
    ∙ ap (option_or (map s k)) (run-more stretch step low place s k l)

pub noted-none : (map : Noted) (stretch : Stretch) (step low s k : ℕ) → map s k ≡ union map (run_noted stretch step low low) s k
noted-none map stretch step low s k = sym (alone (map s k) (run_noted stretch step low low s k) (none-noted stretch step low s k))

-- what agrees with a run does so place by place
pub run-agrees : (map : Noted) (stretch : Stretch) (step low place high : ℕ) → low ≤ place → place < high → Agree map (run_noted stretch step low high)
    → Agree (union map (run_noted stretch step low place)) (only step (stretch.number + place) (OfPoint (kept stretch step place)))
run-agrees map stretch step low place high l h g = λ s k a b p q.
    let x = OfPoint (kept stretch step place) in
    let at = stretch.number + place in
    elim (cases_eq s step) [
      | inr e ↦ let n = only-then step at x s k e in cc
      | inl e ↦ elim (cases_eq k at) [
        | inr f ↦ let n = only-there step at x s k f in cc
        | inl f ↦
            let m = same-first (map s k) (run_noted stretch step low place s k) a (run-before stretch step low place s k (inr (inr (omega arith)))) p in
            let w = run-in stretch step low high s k e (omega arith) (omega arith) ∙ ap (λ i. Some (OfPoint (kept stretch step i))) (omega arith) in
            let v = ap (λ u. only step at x u k) e ∙ ap (only step at x step) f ∙ only-here step at x in
            let y = g s k a x m w in cc
      ]
    ]

pub start-low : (count : ℕ) (even : Bool) → slot count even 0 ≤ count
start-low count true = omega arith
start-low count false = omega arith
