-- A band that is raised and noted is what the rows have between two fronts.
use Rattle.std.proofs.Common.{◌≡◌, ℕ, ◌+◌, ◌-◌, ◌<◌, ◌≤◌, ◌⊎◌, inl, inr, ◌∙◌, ap, sym, subst, refl, arith, Bool, true, false, cond, Option, Some, None}
use Rattle.std.specs.Prelude.{◌||◌}
use Rattle.std.proofs.Math.Bool.{and-false}
use Rattle.std.proofs.lemmas.Bool.{eq-eqb, lt-ltb, le-ltb, le-leb, lt-leb, ne_eqb, cases_eq}
use Rattle.case_model.specs.declared.cases.ProbeAt.{ProbeAt}
use Rattle.case_model.specs.declared.cases.ProbeAt.TheVariants.{OnPipe}
use Rattle.case_model.specs.declared.meshes.Mesh.{Mesh}
use Rattle.case_model.specs.Meaning.{Meaning}
use Rattle.case_model.specs.Mesh.{IsNumbered, reaches}
use Rattle.case_model.specs.PlaceNumbers.{IsOn, number_of, place_at}
use Rattle.case_model.specs.Rows.{row}
use Rattle.envelope.specs.Notings.{Agree, Noted, Noting, union}
use Rattle.envelope.specs.Notings.Noting.{OfPoint}
use Rattle.envelope.specs.Rows.{noting_at, rows_noted}
use Rattle.fronts.specs.Fronts.{Holds, Raises, spot}
use Rattle.fronts.specs.Noted.{run_noted}
use Rattle.fronts.specs.Stretches.{AreSamePlaces, count_of, kept}
use Rattle.fronts.specs.declared.stretches.Stretch.{Stretch}
use Rattle.fronts.proofs.Lining.{run-before, run-in, value-of, where-is}
use Rattle.strands.specs.Marks.{Marks, is_between, is_only, marked, or_marked}
use Rattle.strands.specs.Sections.{IsLine, IsNumberedLine}
use Rattle.std.specs.Option.{option_or}

-- ---- between two fronts

pub between-in : (stretch : Stretch) (front later : ℕ → ℕ) (s k : ℕ) → stretch.number ≤ k
    → k < stretch.number + count_of stretch → front (k - stretch.number) < s → s ≤ later (k - stretch.number)
    → is_between stretch front later s k ≡ true
between-in stretch front later s k a b c d =
    rw (
      le-leb stretch.number k a,
      lt-ltb k (stretch.number + count_of stretch) b,
      lt-ltb (front (k - stretch.number)) s c,
      le-leb s (later (k - stretch.number)) d,
    ) refl

pub between-out : (stretch : Stretch) (front later : ℕ → ℕ) (s k : ℕ)
    → (k < stretch.number) ⊎ ((stretch.number + count_of stretch ≤ k)
    ⊎ ((s ≤ front (k - stretch.number)) ⊎ (later (k - stretch.number) < s)))
    → is_between stretch front later s k ≡ false
between-out stretch front later s k (inl h) = rw (lt-leb stretch.number k h) refl
between-out stretch front later s k (inr (inl h)) =
    rw (le-ltb k (stretch.number + count_of stretch) h, and-false) refl
between-out stretch front later s k (inr (inr (inl h))) =
    rw (le-ltb (front (k - stretch.number)) s h, and-false, and-false) refl
between-out stretch front later s k (inr (inr (inr h))) =
    rw (lt-leb s (later (k - stretch.number)) h, and-false, and-false, and-false) refl

pub same-between : (old new : Stretch) (front later : ℕ → ℕ) (s k : ℕ) → AreSamePlaces old new
    → is_between new front later s k ≡ is_between old front later s k
unfolding count_of
same-between old new front later s k h = rw (h.number_is, h.count_is) refl

-- ---- what the rows have at the places of a stretch

-- the law of place numbers
abbrev pub ArePlaces : Type 0
ArePlaces = (mesh : Mesh) (at : ProbeAt) → IsNumbered mesh → IsOn mesh at → place_at mesh (number_of mesh at) ≡ at

pub numbered-line : (law : Meaning) (stretch : Stretch) → IsLine law stretch → IsNumberedLine law stretch
numbered-line law stretch line = record { on_mesh = line.on_mesh; numbered = line.numbered; number_is = line.number_is; few = line.few }

pub rows-at : (law : Meaning) (stretch : Stretch) (t k : ℕ) → ArePlaces → IsNumberedLine law stretch
    → stretch.number ≤ k → k < stretch.number + count_of stretch
    → rows_noted law t k ≡ Some (OfPoint (spot law stretch t (k - stretch.number)))
rows-at law stretch t k places line low high =
    let p = stretch.pipe in
    let i = stretch.first + (k - stretch.number) in
    let n : stretch.number ≡ number_of law.mesh (OnPipe p stretch.first) = line.number_is in
    let fits : stretch.first + count_of stretch ≤ reaches law.mesh p + 1 = line.on_mesh.fits in
    let e : k ≡ number_of law.mesh (OnPipe p i) = omega arith in
    ap (λ j. Some (noting_at (row law t) (place_at law.mesh j))) e
    ∙ ap (λ at. Some (noting_at (row law t) at)) (places law.mesh (OnPipe p i) line.numbered (line.on_mesh.pipe, omega arith))

-- ---- what is noted

-- what is noted is what the rows have at the marks, and nothing else
abbrev pub IsSplit : Meaning → Noted → Marks → ℕ → ℕ → Type 0
IsSplit law band marks s k =
    ((marks s k ≡ true) × (band s k ≡ rows_noted law s k)) ⊎ ((marks s k ≡ false) × (band s k ≡ None))

apart : (s front later : ℕ) → later ≡ front → (s ≤ front) ⊎ (later < s)
apart s front later e = grind arith

other : (s step front later : ℕ) → (s ≡ step + 1 → ⊥) → front ≡ step → later ≡ step + 1 → (s ≤ front) ⊎ (later < s)
other s step front later h e f = elim (below s (step + 1)) [
  | inl a ↦ inl (omega arith)
  | inr a ↦ elim a [ inl b ↦ absurd (h b) | inr b ↦ inr (omega arith) ]
]
  where
    below : (x y : ℕ) → (x < y) ⊎ ((x ≡ y) ⊎ (y < x))
    below x y = grind arith

-- the same of a stretch of the same places
pub same-line : (law : Meaning) (old new : Stretch) → AreSamePlaces old new → IsLine law old → IsLine law new
unfolding count_of
same-line law old new h line = record {
  on_mesh = record {
    pipe = rw (h.pipe_is) line.on_mesh.pipe;
    fits = rw (h.pipe_is, h.first_is, h.count_is) line.on_mesh.fits;
    small = rw (h.pipe_is) line.on_mesh.small;
  };
  numbered = line.numbered;
  number_is = rw (h.pipe_is, h.first_is, h.number_is) line.number_is;
  long = rw (h.count_is) line.long;
  few = rw (h.number_is, h.count_is) line.few;
}

-- ---- maps with what is between

together : (m b : Bool) (r band : Option Noting) (z : Noting) → r ≡ Some z
    → ((b ≡ true) × (band ≡ r)) ⊎ ((b ≡ false) × (band ≡ None))
    → option_or (cond m r None) band ≡ cond (m || b) r None
together true b r band z e h = rw e refl
together false b r band z e (inl h) = rw (h.0, h.1) refl
together false b r band z e (inr h) = rw (h.0, h.1) refl

pub union-marked : (law : Meaning) (band : Noted) (marks more : Marks) (s k : ℕ) → IsSplit law band more s k
    → union (marked law marks) band s k ≡ marked law (or_marked marks more) s k
unfolding marked
union-marked law band marks more s k h =
    together (marks s k) (more s k) (rows_noted law s k) (band s k) (noting_at (row law s) (place_at law.mesh k)) refl h

pub agree-marked : (law : Meaning) (band : Noted) (marks more : Marks) → ((s k : ℕ) → IsSplit law band more s k)
    → Agree (marked law marks) band
unfolding marked
agree-marked law band marks more h s k x y a b =
    let z = noting_at (row law s) (place_at law.mesh k) in
    let v : x ≡ z = value-of (marks s k) z x a in
    v ∙ sym (one (rows_noted law s k) (band s k) y z refl b (h s k))
  where
    one : {b c : Type 0} (r band : Option Noting) (y z : Noting) → r ≡ Some z → band ≡ Some y
        → (b × (band ≡ r)) ⊎ (c × (band ≡ None)) → y ≡ z
    one r band y z e f (inl h) = let g : band ≡ r = h.1 in cc
    one r band y z e f (inr h) = let g : band ≡ None = h.1 in cc

-- ---- a run of places

run-out : (stretch : Stretch) (step low high : ℕ) (since front later : ℕ → ℕ) (s k : ℕ)
    → Raises step (λ x. x) low high (count_of stretch) since front later
    → (k < stretch.number + low) ⊎ (stretch.number + high ≤ k) → is_between stretch front later s k ≡ false
run-out stretch step low high since front later s k ra h =
    elim (where-is k stretch.number (stretch.number + count_of stretch)) [
      | inl a ↦ between-out stretch front later s k (inl a)
      | inr a ↦ elim a [
        | inl b ↦ between-out stretch front later s k (inr (inl b))
        | inr b ↦
            let x = k - stretch.number in
            let lo : stretch.number ≤ k = b.0 in
            let hi : k < stretch.number + count_of stretch = b.1 in
            let o : (x < low) ⊎ (high ≤ x) = elim h [ inl z ↦ inl (omega arith) | inr z ↦ inr (omega arith) ] in
            between-out stretch front later s k (inr (inr (apart s (front x) (later x) (ra.others x (omega arith) o))))
      ]
    ]

pub split-run : (law : Meaning) (stretch : Stretch) (step low high : ℕ) (since front later : ℕ → ℕ) (s k : ℕ)
    → ArePlaces → IsNumberedLine law stretch → high ≤ count_of stretch
    → Raises step (λ x. x) low high (count_of stretch) since front later
    → Holds law since later stretch
    → IsSplit law (run_noted stretch (step + 1) low high) (is_between stretch front later) s k
split-run law stretch step low high since front later s k places line inside ra h =
    let x = k - stretch.number in
    elim (where-is k (stretch.number + low) (stretch.number + high)) [
      | inl a ↦ inr (run-out stretch step low high since front later s k ra (inl a), run-before stretch (step + 1) low high s k (inr (inl a)))
      | inr c ↦ elim c [
        | inl a ↦ inr (run-out stretch step low high since front later s k ra (inr a), run-before stretch (step + 1) low high s k (inr (inr a)))
        | inr a ↦
            let lo : stretch.number + low ≤ k = a.0 in
            let hi : k < stretch.number + high = a.1 in
            let b : x < count_of stretch = omega arith in
            let w : since x ≤ step = (ra.own x b (omega arith) (omega arith)).0 in
            let f : front x ≡ step = (ra.own x b (omega arith) (omega arith)).1 in
            let g : later x ≡ step + 1 = ra.raised x b (omega arith) (omega arith) in
            elim (cases_eq s (step + 1)) [
              | inl e ↦ inl (
                between-in stretch front later s k (omega arith) (omega arith) (omega arith) (omega arith),
                run-in stretch (step + 1) low high s k e lo hi
                    ∙ ap (λ y. Some (OfPoint y)) (h.cell (step + 1) x b (omega arith) (omega arith) (omega arith))
                    ∙ sym (rows-at law stretch (step + 1) k places line (omega arith) (omega arith))
                    ∙ ap (λ t. rows_noted law t k) (sym e),
              )
              | inr e ↦ inr (
                between-out stretch front later s k (inr (inr (other s step (front x) (later x) e f g))),
                run-before stretch (step + 1) low high s k (inl e),
              )
            ]
      ]
    ]

pub same-numbered : (law : Meaning) (old new : Stretch) → AreSamePlaces old new → IsNumberedLine law old → IsNumberedLine law new
unfolding count_of
same-numbered law old new h line = record {
  on_mesh = record {
    pipe = rw (h.pipe_is) line.on_mesh.pipe;
    fits = rw (h.pipe_is, h.first_is, h.count_is) line.on_mesh.fits;
    small = rw (h.pipe_is) line.on_mesh.small;
  };
  numbered = line.numbered;
  number_is = rw (h.pipe_is, h.first_is, h.number_is) line.number_is;
  few = rw (h.number_is, h.count_is) line.few;
}

pub same-split-run : (law : Meaning) (old new : Stretch) (step low high : ℕ) (since front later : ℕ → ℕ)
    → ArePlaces → IsNumberedLine law old → AreSamePlaces old new → high ≤ count_of old
    → Raises step (λ x. x) low high (count_of old) since front later
    → Holds law since later new → (s k : ℕ)
    → IsSplit law (run_noted new (step + 1) low high) (is_between old front later) s k
same-split-run law old new step low high since front later places line same inside ra h s k =
    let ra' = subst (λ n. Raises step (λ x. x) low high n since front later) (sym same.count_is) ra in
    let size : count_of new ≡ count_of old = same.count_is in
    let e = sym (same-between old new front later s k same) in
    elim (split-run law new step low high since front later s k places (same-numbered law old new same line) (omega arith) ra' h) [
      | inl a ↦ inl (e ∙ a.0, a.1)
      | inr a ↦ inr (e ∙ a.0, a.1)
    ]

-- ---- one point alone is noted

pub split-only : (law : Meaning) (stretch : Stretch) (step at s k : ℕ) → ArePlaces → IsNumberedLine law stretch
    → at < count_of stretch → kept stretch step at ≡ spot law stretch step at
    → IsSplit law (run_noted stretch step at (at + 1)) (is_only step (stretch.number + at)) s k
split-only law stretch step at s k places line b h = elim (cases_eq s step) [
  | inr e ↦ inr (rw (ne_eqb s step e) refl, run-before stretch step at (at + 1) s k (inl e))
  | inl e ↦ elim (where-is k (stretch.number + at) (stretch.number + at + 1)) [
    | inl a ↦ inr (rw (ne_eqb k (stretch.number + at) (λ f. omega arith), and-false) refl, run-before stretch step at (at + 1) s k (inr (inl a)))
    | inr c ↦ elim c [
      | inl a ↦ inr (
        rw (ne_eqb k (stretch.number + at) (λ f. omega arith), and-false) refl,
        run-before stretch step at (at + 1) s k (inr (inr (omega arith))),
      )
      | inr a ↦
          let lo : stretch.number + at ≤ k = a.0 in
          let hi : k < stretch.number + at + 1 = a.1 in
          let x : k - stretch.number ≡ at = omega arith in
          inl (
            rw (eq-eqb s step e, eq-eqb k (stretch.number + at) (omega arith)) refl,
            run-in stretch step at (at + 1) s k e lo (omega arith)
                ∙ ap (λ y. Some (OfPoint (kept stretch step y))) x
                ∙ ap (λ y. Some (OfPoint y)) h
                ∙ ap (λ y. Some (OfPoint (spot law stretch step y))) (sym x)
                ∙ sym (rows-at law stretch step k places line (omega arith) (omega arith))
                ∙ ap (λ t. rows_noted law t k) (sym e),
          )
    ]
  ]
]
