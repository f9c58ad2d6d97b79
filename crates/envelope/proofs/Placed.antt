-- The span and the cell of a place.
use Rattle.std.proofs.Common.{◌≡◌, ◌∙◌, ℕ, ◌+◌, ◌-◌, ◌<◌, ◌≤◌, inl, inr, zero, suc, refl, sym, ap, subst, true, false, List, [], ◌∷◌, length, get_or, arith, le-ltb, lt-ltb}
use Rattle.std.specs.Prelude.{nat_lt}
use Rattle.std.proofs.lemmas.List.Sums.{fails_before_first, passes_at_first, position_or_len_is}
use Rattle.std.proofs.lemmas.Bool.Decides.{nat_tests}
use Rattle.envelope.specs.Cells.{no_span, has_place, is_within, first_of_span, end_of_span, span_of, bases_after, bases_of, cell_of, IsLaidOut, IsRising, IsPlaced}
use Rattle.case_model.proofs.ListFacts.{any-index}
use Rattle.fixed_num.proofs.Between.{le_or_more}

has-bounds : (span : ℕ × ℕ) (place : ℕ) → has_place place span ≡ true → (span.0 ≤ place) × (place < span.0 + span.1)
has-bounds span place h = (grind (arith, nat_tests), grind (arith, nat_tests))

not-past : (span : ℕ × ℕ) (place : ℕ) → nat_lt place (span.0 + span.1) ≡ false → span.0 + span.1 ≤ place
not-past span place h = grind (arith, nat_tests)

past : (span : ℕ × ℕ) (place : ℕ) → nat_lt place (span.0 + span.1) ≡ true → place < span.0 + span.1
past span place h = grind (arith, nat_tests)

pub at-most : (spans : List (ℕ × ℕ)) (place i : ℕ) → i < length spans → place < end_of_span spans i → span_of spans place ≤ i
at-most spans place i l h = elim (le_or_more (span_of spans place) i) [
  | inl w ↦ w
  | inr w ↦ let e = not-past (get_or spans i no_span) place (fails_before_first (λ span. nat_lt place (span.0 + span.1)) spans i no_span w) in absurd (omega arith)
]

same-place : (spans : List (ℕ × ℕ)) (place i q : ℕ) → IsRising spans → IsPlaced spans place i → q ≤ i → place < end_of_span spans q → IsPlaced spans place q
same-place spans place i q r p le h = elim (le_or_more i q) [
  | inl w ↦ let e : i ≡ q = omega arith in subst (λ z. IsPlaced spans place z) e p
  | inr w ↦ let m = r.apart q i w p.there in let n = p.low in absurd (omega arith)
]

pub within-index : (spans : List (ℕ × ℕ)) (place : ℕ) → is_within spans place ≡ true → (i : ℕ) × IsPlaced spans place i
unfolding is_within
within-index spans place h =
    let a = any-index (has_place place) spans no_span h in
    let b = has-bounds (get_or spans a.0 no_span) place a.2 in
    (a.0, record { there = a.1; low = b.0; high = b.1 })

pub placed : (spans : List (ℕ × ℕ)) (place : ℕ) → IsRising spans → is_within spans place ≡ true → IsPlaced spans place (span_of spans place)
placed spans place r h =
    let a = within-index spans place h in
    let le = at-most spans place a.0 a.1.there a.1.high in
    let t = a.1.there in
    same-place spans place a.0 (span_of spans place) r a.1 le
    (past (get_or spans (span_of spans place) no_span) place (passes_at_first (λ span. nat_lt place (span.0 + span.1)) spans no_span (omega arith)))

-- the cells stand one behind the other
pub first-base : (before : ℕ) (spans : List (ℕ × ℕ)) → get_or (bases_after before spans) 0 0 ≡ before
first-base before [] = refl
first-base before (span ∷ spans) = refl

base-after : (before : ℕ) (spans : List (ℕ × ℕ)) (i : ℕ) → i < length spans
    → get_or (bases_after before spans) (suc i) 0 ≡ get_or (bases_after before spans) i 0 + (get_or spans i no_span).1
base-after before [] i l = absurd (omega arith)
base-after before (span ∷ spans) zero l = first-base (before + span.1) spans
base-after before (span ∷ spans) (suc i) l = base-after (before + span.1) spans i (omega arith)

bases-count : (before : ℕ) (spans : List (ℕ × ℕ)) → length (bases_after before spans) ≡ suc (length spans)
bases-count before [] = refl
bases-count before (span ∷ spans) = ap suc (bases-count (before + span.1) spans)

pub next-base : (spans : List (ℕ × ℕ)) (i : ℕ) → i < length spans → get_or (bases_of spans) (i + 1) 0 ≡ get_or (bases_of spans) i 0 + (get_or spans i no_span).1
next-base spans i l = let e : i + 1 ≡ suc i = omega arith in ap (λ n. get_or (bases_of spans) n 0) e ∙ base-after 0 spans i l

-- so many cells lie before a span as places at most
base-low : (spans : List (ℕ × ℕ)) (i j : ℕ) → IsRising spans → i ≤ j → j < length spans → get_or (bases_of spans) i 0 ≤ first_of_span spans j
base-low spans zero j r le l = let e = first-base 0 spans in omega arith
base-low spans (suc i) j r le l =
    let a = base-low spans i i r (omega arith) (omega arith) in
    let b = base-after 0 spans i (omega arith) in
    let c = r.apart i j (omega arith) l in
    omega arith

bases-apart : (spans : List (ℕ × ℕ)) (i j : ℕ) → i < j → j ≤ length spans → get_or (bases_of spans) i 0 + (get_or spans i no_span).1 ≤ get_or (bases_of spans) j 0
bases-apart spans i zero lt le = absurd (omega arith)
bases-apart spans i (suc j) lt le =
    let b = base-after 0 spans j (omega arith) in
    elim (le_or_more j i) [
      | inl w ↦ let e : i ≡ j = omega arith in subst (λ k. get_or (bases_of spans) k 0 + (get_or spans k no_span).1 ≤ get_or (bases_of spans) (suc j) 0) (sym e) (omega arith)
      | inr w ↦ let a = bases-apart spans i j w (omega arith) in omega arith
    ]

pub bases-few : (spans : List (ℕ × ℕ)) (n : ℕ) → IsRising spans → n ≤ length spans → get_or (bases_of spans) n 0 ≤ 400_000
bases-few spans zero r le = let e = first-base 0 spans in omega arith
bases-few spans (suc n) r le =
    let a = base-low spans n n r (omega arith) (omega arith) in
    let b = base-after 0 spans n (omega arith) in
    let c = r.low n (omega arith) in
    omega arith

pub laid-out : (spans : List (ℕ × ℕ)) → IsRising spans → IsLaidOut spans (bases_of spans)
laid-out spans r = record {
  each = let e = bases-count 0 spans in omega arith;
  apart = λ i j lt le. bases-apart spans i j lt le;
  few = bases-few spans (length spans) r (omega arith);
}

-- the spans up to the one of a place
pub span-there : (spans : List (ℕ × ℕ)) (place : ℕ) → is_within spans place ≡ true → 0 < length spans
span-there spans place w = let p = within-index spans place w in let l = p.1.there in omega arith

pub span-next : (spans : List (ℕ × ℕ)) (place index : ℕ) → is_within spans place ≡ true → ((i : ℕ) → i ≤ index → end_of_span spans i ≤ place) → index + 1 < length spans
span-next spans place index w h =
    let p = within-index spans place w in
    let l = p.1.there in
    let u = p.1.high in
    elim (le_or_more p.0 index) [
      | inl le ↦ let a = h p.0 le in absurd (omega arith)
      | inr lt ↦ omega arith
    ]

pub span-found : (spans : List (ℕ × ℕ)) (place index : ℕ) → index < length spans → ((i : ℕ) → i < index → end_of_span spans i ≤ place) → place < end_of_span spans index
    → span_of spans place ≡ index
span-found spans place index l h p =
    position_or_len_is (λ span. nat_lt place (span.0 + span.1)) spans index no_span (omega arith)
    (λ k q. le-ltb place (end_of_span spans k) (h k q))
    (λ q. lt-ltb place (end_of_span spans index) p)

-- what holds below a number and at it holds up to it
pub up-to : (f : ℕ → ℕ) (limit index : ℕ) → ((i : ℕ) → i < index → f i ≤ limit) → f index ≤ limit → (i : ℕ) → i ≤ index → f i ≤ limit
up-to f limit index h l i le = elim (le_or_more index i) [
  | inl w ↦ let e : i ≡ index = omega arith in subst (λ k. f k ≤ limit) (sym e) l
  | inr w ↦ h i w
]

pub placed-here : (spans : List (ℕ × ℕ)) (place index : ℕ) → IsRising spans → is_within spans place ≡ true → index < length spans → ((i : ℕ) → i < index → end_of_span spans i ≤ place)
    → place < end_of_span spans index → IsPlaced spans place index
placed-here spans place index r w l h p = subst (λ i. IsPlaced spans place i) (span-found spans place index l h p) (placed spans place r w)

pub cell-here : (spans : List (ℕ × ℕ)) (place index before : ℕ) → span_of spans place ≡ index → before ≡ get_or (bases_of spans) index 0
    → before + (place - first_of_span spans index) ≡ cell_of spans (bases_of spans) place
unfolding cell_of
cell-here spans place index before e b = rw (e, b) refl
