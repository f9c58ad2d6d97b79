-- Laws of places and spans, for callers.
use Rattle.std.proofs.Common.{◌≡◌, ℕ, ◌+◌, ◌<◌, ◌≤◌, true, List, [], ◌∷◌, length, get_or, subst}
use Rattle.std.proofs.Common.{sym, arith}
use Rattle.std.proofs.lemmas.Bool.Decides.{nat_tests}
use Rattle.std.proofs.lemmas.List.Folds.{list_any_at}
use Rattle.envelope.specs.Cells.{no_span, has_place, is_within, first_of_span, end_of_span}
use Rattle.envelope.specs.Cells.{AreInSpan, AreInOneSpan}

has-place : (k : ℕ) (span : ℕ × ℕ) → span.0 ≤ k → k < span.0 + span.1 → has_place k span ≡ true
has-place k span low high = grind (arith, nat_tests)

-- a place of span i lies in the spans
pub within-span : (spans : List (ℕ × ℕ)) (i k : ℕ) → i < length spans → first_of_span spans i ≤ k
    → k < end_of_span spans i → is_within spans k ≡ true
unfolding is_within
within-span spans i k l low high =
    list_any_at (has_place k) spans i no_span l (has-place k (get_or spans i no_span) low high)

-- one span that begins at place 0
pub within-first : (spans : List (ℕ × ℕ)) (count place : ℕ) → spans ≡ (0, count) ∷ []
    → place < count → is_within spans place ≡ true
within-first spans count place e h =
    subst (λ s. is_within s place ≡ true) (sym e)
    (within-span ((0, count) ∷ []) 0 place (omega arith) (omega arith) (omega arith))

-- places below the count of the one span
pub in-first : (spans : List (ℕ × ℕ)) (count first more : ℕ) → spans ≡ (0, count) ∷ []
    → first + more ≤ count → AreInOneSpan spans first more
in-first spans count first more e h = (
  0,
  subst (λ s. AreInSpan s first more 0) (sym e)
      (record { there = omega arith; low = omega arith; high = omega arith }),
)

below-count : (count place : ℕ) → is_within ((0, count) ∷ []) place ≡ true → place < count
unfolding is_within
below-count count place h = grind (arith, nat_tests)

pub below-first : (spans : List (ℕ × ℕ)) (count place : ℕ) → spans ≡ (0, count) ∷ []
    → is_within spans place ≡ true → place < count
below-first spans count place e h =
    below-count count place (subst (λ s. is_within s place ≡ true) e h)
