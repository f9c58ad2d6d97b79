-- The fronts around a seam.
use Rattle.std.proofs.Common.{◌≡◌, ℕ, ◌+◌, ◌-◌, ◌*◌, ◌<◌, inl, inr, ◌∙◌, sym, subst, min, arith}
use Rattle.case_model.specs.Meaning.{Meaning}
use Rattle.envelope.specs.Cells.{AreInOneSpan}
use Rattle.envelope.specs.Folds.{IsSameFold, spans_of}
use Rattle.envelope.specs.declared.folds.Fold.{Fold}
use Rattle.fronts.specs.Fronts.{Holds, Raises}
use Rattle.fronts.specs.Stretches.{AreSamePlaces, count_of}
use Rattle.fronts.specs.declared.stretches.Stretch.{Stretch}
use Rattle.strands.proofs.Advancing.{advanced-more}
use Rattle.strands.specs.Sections.{IsAdvanced}
use Rattle.strands.specs.Stations.{NotesTriangles, half, seam_front, seam_since}

pub raises-fan : (w s k most : ℕ) → k < w → most ≡ min k (w - 1 - k)
    → Raises (s + k) (λ x. x) (half w - most) (half w + most + 1) (2 * half w + 1) (seam_since w s) (seam_front w s k) (seam_front w s (k + 1))
raises-fan w s k most a e = record {
  own = λ x h i j. (omega arith, omega arith);
  left = λ x h i j. record { low = omega arith; high = omega arith; near = omega arith };
  right = λ x h i j. record { low = omega arith; high = omega arith; near = omega arith };
  raised = λ x h i j. omega arith;
  others = λ x h b. elim b [ inl c ↦ omega arith | inr c ↦ omega arith ];
}

-- the places of a step are among those that the fold has
pub within-triangles : (w k most : ℕ) (stretch : Stretch) (fold : Fold) → k < w → most ≡ min k (w - 1 - k)
    → NotesTriangles w stretch fold
    → AreInOneSpan (spans_of fold) (stretch.number + (half w - most)) (half w + most + 1 - (half w - most))
within-triangles w k most stretch fold a e (i, h) =
    let lo : _ = h.low in
    let hi : _ = h.high in
    (i, record { there = h.there; low = omega arith; high = omega arith })

-- the fold and the stretch are those of the same places still
pub triangles-same : (w : ℕ) (old new : Stretch) (before after : Fold) → AreSamePlaces old new → IsSameFold before after
    → NotesTriangles w old before → NotesTriangles w new after
triangles-same w old new before after same fold h = rw (same.number_is, fold.spans_are) h

-- step k of a seam's region
pub seam-more : (law : Meaning) (w s k most low high : ℕ) (old mid new : Stretch) (first second third : Fold)
    → count_of old ≡ 2 * half w + 1 → k < w → most ≡ min k (w - 1 - k) → low ≡ half w - most → high ≡ half w + most + 1
    → IsAdvanced law (seam_since w s) (seam_front w s 0) (seam_front w s k) old mid first second
    → ((since front later : ℕ → ℕ) → Raises (s + k) (λ x. x) low high (count_of mid) since front later
    → Holds law since front mid → IsAdvanced law since front later mid new second third)
    → IsAdvanced law (seam_since w s) (seam_front w s 0) (seam_front w s (k + 1)) old new first third
seam-more law w s k most low high old mid new first second third size a b e f h step =
    let long : count_of mid ≡ 2 * half w + 1 = h.same.count_is ∙ size in
    let ra = subst (λ c. Raises (s + k) (λ x. x) low high c (seam_since w s) (seam_front w s k) (seam_front w s (k + 1))) (sym long)
    (subst (λ z. Raises (s + k) (λ x. x) z high (2 * half w + 1) (seam_since w s) (seam_front w s k) (seam_front w s (k + 1))) (sym e)
    (subst (λ z. Raises (s + k) (λ x. x) (half w - most) z (2 * half w + 1) (seam_since w s) (seam_front w s k) (seam_front w s (k + 1))) (sym f) (raises-fan w s k most a b))) in
    advanced-more law (seam_since w s) (seam_front w s 0) (seam_front w s k) (seam_front w s (k + 1)) old mid new first second third
    (λ x l. (omega arith, omega arith)) h (step (seam_since w s) (seam_front w s k) (seam_front w s (k + 1)) ra h.holds)

-- over a window of two steps the fold has the seam alone
pub seam-noted : (w : ℕ) (stretch : Stretch) (fold : Fold) → w ≡ 2 → NotesTriangles w stretch fold
    → AreInOneSpan (spans_of fold) (stretch.number + 1) 1
seam-noted w stretch fold two (i, h) =
    let lo : _ = h.low in
    let hi : _ = h.high in
    (i, record { there = h.there; low = omega arith; high = omega arith })
