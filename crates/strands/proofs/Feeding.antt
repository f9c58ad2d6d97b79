-- The strand of a section: the initial row, how it is noted, and the tent with its blocks.
use Rattle.std.proofs.Common.{◌≡◌, ℕ, ◌+◌, ◌-◌, ◌<◌, ◌≤◌, ◌⊎◌, inl, inr, ◌∙◌, ap, sym, subst, refl}
use Rattle.std.proofs.Common.{arith, Bool, true, false, Some, if◌then◌else◌}
use Rattle.std.specs.Prelude.{◌||◌, not}
use Rattle.std.proofs.Math.Bool.{and-false}
use Rattle.std.proofs.lemmas.Bool.{eq-eqb, le-leb, le-ltb, lt-leb, lt-ltb, ne_eqb, true≢false, cases_eq}
use Rattle.case_model.specs.declared.points.Point.{Point}
use Rattle.case_model.specs.Meaning.{Meaning}
use Rattle.case_model.specs.Rows.{row}
use Rattle.envelope.specs.Notings.Noting.{OfPoint}
use Rattle.envelope.specs.Rows.{rows_noted}
use Rattle.fronts.specs.Fronts.{Holds, ever, loaded, risen, spot, tent}
use Rattle.fronts.specs.Noted.{run_noted}
use Rattle.fronts.specs.Stretches.{AreSamePlaces, IsPut, count_of, kept}
use Rattle.fronts.specs.declared.stretches.Stretch.{Stretch}
use Rattle.fronts.proofs.Lining.{run-before, run-in, where-is}
use Rattle.fronts.proofs.Raising.{same-spot}
use Rattle.strands.proofs.Handing.{before-or-at}
use Rattle.strands.proofs.Marking.{ArePlaces, IsSplit, numbered-line, rows-at, same-line}
use Rattle.strands.specs.Marks.{start_marks}
use Rattle.strands.specs.Sections.{IsLine}
use Rattle.strands.specs.Tents.{IsSectionAt, fed, has_block}
use Rattle.strands.specs.declared.tents.Section.{Section}
use Rattle.strands.specs.Blocks.{IsBare, raised}

-- ---- the initial row

-- the law's start is what the rows have at step 0
start-is : (law : Meaning) (stretch : Stretch) (x : ℕ)
    → law.start_point stretch.pipe (stretch.first + x) ≡ spot law stretch 0 x
unfolding row
start-is law stretch x = refl

-- one place more has its point of the initial row
pub starts-more : (law : Meaning) (first old new : Stretch) (place : ℕ) (point : Point)
    → AreSamePlaces first old → IsPut 0 place point old new
    → point ≡ law.start_point old.pipe (old.first + place)
    → ((x : ℕ) → x < place → kept old 0 x ≡ spot law first 0 x)
    → (x : ℕ) → x < place + 1 → kept new 0 x ≡ spot law first 0 x
starts-more law first old new place point same put e h x b = elim (before-or-at x place b) [
  | inl a ↦ put.beside 0 x (λ z. omega arith) ∙ h x a
  | inr a ↦
      ap (kept new 0) a ∙ put.here 0 refl ∙ e ∙ start-is law old place
      ∙ same-spot law first old 0 place same ∙ ap (spot law first 0) (sym a)
]

-- and so have all
pub starts-all : (law : Meaning) (old new : Stretch) (n : ℕ) → AreSamePlaces old new
    → ((x : ℕ) → x < count_of old → kept new 0 x ≡ spot law old 0 x)
    → Holds law ever (risen n 0) new
starts-all law old new n same h = record {
  cell = λ t x b s f g.
      let size : count_of new ≡ count_of old = same.count_is in
      let z : t ≡ 0 = omega arith in
      ap (λ u. kept new u x) z ∙ h x (omega arith) ∙ sym (same-spot law old new 0 x same)
      ∙ ap (λ u. spot law new u x) (sym z);
}

-- ---- how it is noted

start-in : (low high s k : ℕ) → s ≡ 0 → low ≤ k → k < high → start_marks low high s k ≡ true
start-in low high s k e a b = rw (eq-eqb s 0 e, le-leb low k a, lt-ltb k high b) refl

start-out : (low high s k : ℕ) → (k < low) ⊎ (high ≤ k) → start_marks low high s k ≡ false
start-out low high s k (inl h) = rw (lt-leb low k h, and-false) refl
start-out low high s k (inr h) = rw (le-ltb k high h, and-false, and-false) refl

start-later : (low high s k : ℕ) → (s ≡ 0 → ⊥) → start_marks low high s k ≡ false
start-later low high s k h = rw (ne_eqb s 0 h) refl

-- a run of places at step 0 has what the rows have there, and nothing else
pub split-start : (law : Meaning) (stretch : Stretch) (low high : ℕ) → ArePlaces
    → IsLine law stretch
    → high ≤ count_of stretch
    → ((x : ℕ) → low ≤ x → x < high → kept stretch 0 x ≡ spot law stretch 0 x) → (s k : ℕ)
    → IsSplit law (run_noted stretch 0 low high)
    (start_marks (stretch.number + low) (stretch.number + high)) s k
split-start law stretch low high places line inside held s k =
    let from = stretch.number + low in
    let until = stretch.number + high in
    elim (cases_eq s 0) [
      | inr e ↦ inr (start-later from until s k e, run-before stretch 0 low high s k (inl e))
      | inl e ↦ elim (where-is k from until) [
        | inl a ↦ inr (
          start-out from until s k (inl a),
          run-before stretch 0 low high s k (inr (inl a)),
        )
        | inr c ↦ elim c [
          | inl a ↦ inr (
            start-out from until s k (inr a),
            run-before stretch 0 low high s k (inr (inr a)),
          )
          | inr a ↦
              let lo : stretch.number + low ≤ k = a.0 in
              let hi : k < stretch.number + high = a.1 in
              inl (
                start-in from until s k e lo hi,
                run-in stretch 0 low high s k e lo hi
                    ∙ ap (λ y. Some (OfPoint y))
                    (held (k - stretch.number) (omega arith) (omega arith))
                    ∙ sym (rows-at law stretch 0 k places (numbered-line law stretch line)
                    (omega arith) (omega arith))
                    ∙ ap (λ t. rows_noted law t k) (sym e),
              )
        ]
      ]
    ]

-- ---- the tent with its blocks

-- two fronts that are the same at all places hold the same
pub same-front : (law : Meaning) (one other : ℕ → ℕ) (stretch : Stretch)
    → ((x : ℕ) → x < count_of stretch → one x ≡ other x) → Holds law ever one stretch
    → Holds law ever other stretch
same-front law one other stretch e h = record {
  cell = λ t x b s f g.
      let m : one x ≡ other x = e x b in h.cell t x b s (omega arith) (omega arith);
}

pub unfed-is : (left right : Bool) (w s n x : ℕ) → left ≡ false → right ≡ false
    → fed left right w s n x ≡ tent s n x
unfed-is left right w s n x a b = rw (a, b) (omega arith)

pub fed-is : (left right : Bool) (w s n x : ℕ) → left ≡ true → right ≡ true → x ≤ n
    → fed left right w s n x ≡ loaded s w n x
fed-is left right w s n x a b c = rw (a, b) (omega arith)

bare-left : (right : Bool) (w s n : ℕ) → w ≤ n → IsBare true n w s (fed false right w s n)
bare-left true w s n a = record { near = λ x b c. omega arith; far = λ x b. omega arith }
bare-left false w s n a = record { near = λ x b c. omega arith; far = λ x b. omega arith }

bare-right : (left : Bool) (w s n : ℕ) → w ≤ n → IsBare false n w s (fed left false w s n)
bare-right true w s n a = record { near = λ x b c. omega arith; far = λ x b. omega arith }
bare-right false w s n a = record { near = λ x b c. omega arith; far = λ x b. omega arith }

-- where this side's block isn't loaded, no block of this side has raised the front
pub fed-bare : (side left right : Bool) (w s n : ℕ) → w ≤ n → (if side then left else right) ≡ false
    → IsBare side n w s (fed left right w s n)
fed-bare true left right w s n a e =
    subst (λ z. IsBare true n w s (fed z right w s n)) (sym e) (bare-left right w s n a)
fed-bare false left right w s n a e =
    subst (λ z. IsBare false n w s (fed left z w s n)) (sym e) (bare-right left w s n a)

-- and once it is loaded it has
pub fed-more : (side left right : Bool) (w s n x : ℕ) → (if side then left else right) ≡ false
    → raised side n w s (fed left right w s n) x ≡ fed (left || side) (right || not side) w s n x
fed-more true true right w s n x e = absurd (true≢false e)
fed-more true false true w s n x e = omega arith
fed-more true false false w s n x e = omega arith
fed-more false left true w s n x e = absurd (true≢false e)
fed-more false true false w s n x e = omega arith
fed-more false false false w s n x e = omega arith

-- a section with one block more
pub section-loaded : (law : Meaning) (side : Bool) (w s : ℕ) (old : Section) (stretch : Stretch)
    → has_block side old ≡ false → AreSamePlaces old.stretch stretch → IsSectionAt law w s old
    → (IsBare side (count_of old.stretch - 1) w s
    (fed old.left old.right w s (count_of old.stretch - 1))
    → Holds law ever (raised side (count_of old.stretch - 1) w s
    (fed old.left old.right w s (count_of old.stretch - 1))) stretch)
    → IsSectionAt law w s
    record { stretch = stretch; left = old.left || side; right = old.right || not side }
section-loaded law side w s old stretch e same at holds =
    let n = count_of old.stretch - 1 in
    let size : count_of stretch ≡ count_of old.stretch = same.count_is in
    let long : w + 1 ≤ count_of old.stretch = at.long in
    let h = holds (fed-bare side old.left old.right w s n (omega arith) e) in
    record {
      line = same-line law old.stretch stretch same at.line;
      some = at.some;
      long = omega arith;
      holds = subst (λ z. Holds law ever
          (fed (old.left || side) (old.right || not side) w s (z - 1)) stretch) (sym size)
          (same-front law (raised side n w s (fed old.left old.right w s n))
          (fed (old.left || side) (old.right || not side) w s n) stretch
          (λ x b. fed-more side old.left old.right w s n x e) h);
    }
