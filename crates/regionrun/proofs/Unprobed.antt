-- Spans in which no probe lies, as the marks of places tell it.
use Rattle.std.specs.Prelude.{◌≡◌, ℕ, suc, ◌+◌, ◌<◌, Bool, true, false, List, []}
use Rattle.std.specs.Prelude.{◌∷◌, length, slice_index_or, take, refl}
use Rattle.std.specs.List.{filter}
use Rattle.std.proofs.Common.{inl, inr, ◌∙◌, sym, arith}
use Rattle.std.proofs.lemmas.Bool.{cases_Bool, or_cases, true≢false}
use Rattle.std.proofs.lemmas.List.Folds.{list_any_more}
use Rattle.envelope.specs.Cells.{has_place, is_within}
use Rattle.regionrun.specs.Surveys.{AreProbed, HasNoProbe}

-- a list of which no item passes
none-pass : (p : ℕ → Bool) (xs : List ℕ)
    → ((j : ℕ) → j < length xs → p (slice_index_or xs j 0) ≡ false) → filter p xs ≡ []
none-pass p [] h = refl
none-pass p (x ∷ xs) h = rw (h 0 (omega arith)) (none-pass p xs (λ j l. h (suc j) (omega arith)))

pub has-none : (spans : List (ℕ × ℕ)) (probes : List ℕ) (probed : List Bool)
    → AreProbed probes probed → HasNoProbe spans probed → filter (is_within spans) probes ≡ []
has-none spans probes probed marked none = none-pass (is_within spans) probes (λ j l.
    elim (cases_Bool (is_within spans (slice_index_or probes j 0))) [
      | inl e ↦ absurd (true≢false (sym (marked j l) ∙ none (slice_index_or probes j 0) e))
      | inr e ↦ e
    ])

-- one span more has none
pub none-more : (spans : List (ℕ × ℕ)) (i k : ℕ) (d : ℕ × ℕ) (probed : List Bool)
    → i < length spans
    → ((k : ℕ) → is_within (take i spans) k ≡ true → slice_index_or probed k true ≡ false)
    → ((k : ℕ) → has_place k (slice_index_or spans i d) ≡ true
    → slice_index_or probed k true ≡ false)
    → is_within (take (i + 1) spans) k ≡ true → slice_index_or probed k true ≡ false
unfolding is_within
none-more spans i k d probed there before here e =
    elim (or_cases (is_within (take i spans) k) (has_place k (slice_index_or spans i d))
    (sym (list_any_more (has_place k) spans i d there) ∙ e)) [
      | inl l ↦ before k l
      | inr l ↦ here k l
    ]
