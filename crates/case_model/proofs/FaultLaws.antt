use Rattle.std.specs.Prelude.{◌≡◌, ℕ, zero, suc, ◌<◌, ◌≤◌, ◌⊎◌, Bool, true, false, cond, ltb, List, length, get_or, Option, Some, None, position, refl}
use Rattle.std.specs.List.{position_or_len}
use Rattle.std.specs.Option.{option_map}
use Rattle.std.proofs.Common.{inl, inr, subst, sym, arith, ◌∙◌}
use Rattle.std.proofs.lemmas.Bool.{false≢true, ltb-true, ltb-false}
use Rattle.std.proofs.lemmas.Bool.Decides.{leb_tells}
use Rattle.std.proofs.lemmas.List.{get_or_past}
use Rattle.std.proofs.lemmas.List.Sums.{fails_before_first, passes_at_first}
use Rattle.case_model.specs.FirstFault.{row_fault, earlier_or, first_fault, IsFirstFault}
use Rattle.case_model.specs.Meaning.{Meaning}
use Rattle.case_model.specs.Places.{bad_places, IsBadAt}

-- ---- the first true one of a list

-- an index, or none, is that of the first true one
abbrev TellsFirst : List Bool → Option ℕ → Type 0
TellsFirst bs None = (k : ℕ) → get_or bs k false ≡ true → ⊥
TellsFirst bs (Some n) = (get_or bs n false ≡ true) × ((k : ℕ) → get_or bs k false ≡ true → n ≤ k)

by_test : (b : Bool) (n : ℕ) (bs : List Bool) → (b ≡ true → TellsFirst bs (Some n)) → (b ≡ false → TellsFirst bs None) → TellsFirst bs (cond b (Some n) None)
by_test true n bs some none = some refl
by_test false n bs some none = none refl

-- none before the first is true
not_before : (bs : List Bool) (k : ℕ) → get_or bs k false ≡ true → k < position_or_len (λ b. b) bs → ⊥
not_before bs k t h = false≢true (sym (fails_before_first (λ b. b) bs k false h) ∙ t)

-- none past the end is true
within_list : (bs : List Bool) (k : ℕ) → get_or bs k false ≡ true → k < length bs
within_list bs k t =
    elim (leb_tells (length bs) k) [ inl h ↦ absurd (false≢true (sym (get_or_past bs k false h.1) ∙ t)) | inr h ↦ h.1 ]

first_le : (bs : List Bool) (k : ℕ) → get_or bs k false ≡ true → position_or_len (λ b. b) bs ≤ k
first_le bs k t =
    elim (leb_tells (position_or_len (λ b. b) bs) k) [ inl h ↦ h.1 | inr h ↦ absurd (not_before bs k t h.1) ]

position-tells : (bs : List Bool) → TellsFirst bs (position (λ b. b) bs)
position-tells bs =
    let n : ℕ = position_or_len (λ b. b) bs in
    by_test (ltb n (length bs)) n bs
    (λ e. (passes_at_first (λ b. b) bs false (ltb-true n (length bs) e), first_le bs))
    (λ e k t. not_before bs k t (let in' : k < length bs = within_list bs k t in let past : length bs ≤ n = ltb-false n (length bs) e in omega arith))

-- ---- the first fault of one row

abbrev TellsRow : Meaning → ℕ → Option (ℕ × ℕ) → Type 0
TellsRow law s None = (k : ℕ) → IsBadAt law s k → ⊥
TellsRow law s (Some fault) = (fault.0 ≡ s) × IsBadAt law s fault.1 × ((k : ℕ) → IsBadAt law s k → fault.1 ≤ k)

at_step : (law : Meaning) (s : ℕ) (o : Option ℕ) → TellsFirst (bad_places law s) o → TellsRow law s (option_map (λ k. (s, k)) o)
at_step law s None h = h
at_step law s (Some n) h = (refl, h.0, h.1)

row-tells : (law : Meaning) (s : ℕ) → TellsRow law s (row_fault law s)
unfolding row_fault
row-tells law s = at_step law s (position (λ bad. bad) (bad_places law s)) (position-tells (bad_places law s))

-- ---- the first fault up to a step

-- a fault, or none, is the first up to the last step
abbrev pub Tells : Meaning → ℕ → Option (ℕ × ℕ) → Type 0
Tells law last None = (s k : ℕ) → s ≤ last → IsBadAt law s k → ⊥
Tells law last (Some fault) = IsFirstFault law last fault.0 fault.1

bad_there : (law : Meaning) (s t k : ℕ) → s ≡ t → IsBadAt law s k → IsBadAt law t k
bad_there law s t k e bad = subst (λ u. IsBadAt law u k) e bad

at_zero : (law : Meaning) (o : Option (ℕ × ℕ)) → TellsRow law 0 o → Tells law 0 o
at_zero law None h = λ s k le bad. h k (bad_there law s 0 k (omega arith) bad)
at_zero law (Some fault) h = record {
  within = let e : fault.0 ≡ 0 = h.0 in omega arith;
  bad = bad_there law 0 fault.0 fault.1 (sym h.0) h.1;
  least = λ s k le bad.
      let e : s ≡ 0 = omega arith in
      inr (h.0 ∙ sym e, h.2 k (bad_there law s 0 k e bad));
}

later : (law : Meaning) (last : ℕ) (o r : Option (ℕ × ℕ)) → Tells law last o → TellsRow law (suc last) r → Tells law (suc last) (earlier_or o r)
later law last (Some fault) r h i = record {
  within = let w : fault.0 ≤ last = h.within in omega arith;
  bad = h.bad;
  least = λ s k le bad.
      elim (leb_tells s last) [ inl t ↦ h.least s k t.1 bad | inr t ↦ inl (let w : fault.0 ≤ last = h.within in let l : last < s = t.1 in omega arith) ];
}
later law last None (Some fault) h i = record {
  within = let e : fault.0 ≡ suc last = i.0 in omega arith;
  bad = bad_there law (suc last) fault.0 fault.1 (sym i.0) i.1;
  least = λ s k le bad.
      elim (leb_tells s last) [
        | inl t ↦ absurd (h s k t.1 bad)
        | inr t ↦ let l : last < s = t.1 in let e : s ≡ suc last = omega arith in inr (i.0 ∙ sym e, i.2 k (bad_there law s (suc last) k e bad))
      ];
}
later law last None None h i =
    λ s k le bad.
    elim (leb_tells s last) [
      | inl t ↦ h s k t.1 bad
      | inr t ↦ let l : last < s = t.1 in i k (bad_there law s (suc last) k (omega arith) bad)
    ]

pub first_fault-tells : (law : Meaning) (last : ℕ) → Tells law last (first_fault law last)
unfolding first_fault
first_fault-tells law zero = at_zero law (row_fault law 0) (row-tells law 0)
first_fault-tells law (suc last) = later law last (first_fault law last) (row_fault law (suc last)) (first_fault-tells law last) (row-tells law (suc last))

-- ---- there is only one

both_ways : (a b c d : ℕ) → (a < c) ⊎ ((a ≡ c) × (b ≤ d)) → (c < a) ⊎ ((c ≡ a) × (d ≤ b)) → (a ≡ c) × (b ≡ d)
both_ways a b c d (inl h) (inl i) = absurd (omega arith)
both_ways a b c d (inl h) (inr i) = absurd (omega arith)
both_ways a b c d (inr h) (inl i) = absurd (omega arith)
both_ways a b c d (inr h) (inr i) = (h.0, omega arith)

same_fault : (a b c d : ℕ) → (a ≡ c) × (b ≡ d) → ◌≡◌ {A = Option (ℕ × ℕ)} (Some (a, b)) (Some (c, d))
same_fault a b c d h = cc

one_first : (law : Meaning) (last : ℕ) (o : Option (ℕ × ℕ)) → Tells law last o → (step place : ℕ) → IsFirstFault law last step place → o ≡ Some (step, place)
one_first law last None h step place f = absurd (h step place f.within f.bad)
one_first law last (Some fault) h step place f =
    same_fault fault.0 fault.1 step place (both_ways fault.0 fault.1 step place (h.least step place f.within f.bad) (f.least fault.0 fault.1 h.within h.bad))

no_first : (law : Meaning) (last : ℕ) (o : Option (ℕ × ℕ)) → Tells law last o → ((s k : ℕ) → s ≤ last → IsBadAt law s k → ⊥) → o ≡ None
no_first law last None h no_bad = refl
no_first law last (Some fault) h no_bad = absurd (no_bad fault.0 fault.1 h.within h.bad)

-- ---- first_fault gives exactly the first fault, or None

pub first_fault-Some : (law : Meaning) (last step place : ℕ) → first_fault law last ≡ Some (step, place) → IsFirstFault law last step place
first_fault-Some law last step place e = subst (Tells law last) e (first_fault-tells law last)

pub first_fault-only : (law : Meaning) (last step place : ℕ) → IsFirstFault law last step place → first_fault law last ≡ Some (step, place)
first_fault-only law last = one_first law last (first_fault law last) (first_fault-tells law last)

pub first_fault-None : (law : Meaning) (last : ℕ) → first_fault law last ≡ None → (s k : ℕ) → s ≤ last → IsBadAt law s k → ⊥
first_fault-None law last e = subst (Tells law last) e (first_fault-tells law last)

pub first_fault-none_bad : (law : Meaning) (last : ℕ) → ((s k : ℕ) → s ≤ last → IsBadAt law s k → ⊥) → first_fault law last ≡ None
first_fault-none_bad law last = no_first law last (first_fault law last) (first_fault-tells law last)
