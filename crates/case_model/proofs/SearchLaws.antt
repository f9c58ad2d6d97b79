-- The search for a refusal finds the least pair of the first pass that has one, where the passes hold
-- no pair beyond the lines and numbers that are searched.
use Rattle.std.proofs.Common.{ℕ, zero, suc, ◌+◌, ◌<◌, ◌≤◌, ◌≡◌, ◌⊎◌, inl, inr, true, false, Bool, cond, IsTrue, List, [], ◌∷◌, Option, Some, None, ap, subst, sym, ◌∙◌, refl, arith}
use Rattle.std.specs.List.{find, range_with_len}
use Rattle.case_model.specs.Sets.{Rules, IsEmpty, IsLeast, AreEmpty, IsFirst}
use Rattle.case_model.specs.Bounds.{IsOneOf, IsRising, IsBounded, AreBounded, LeastOrNone, FirstOrNone}
use Rattle.case_model.specs.Search.{Refusal, found_on, least_of, or_found, first_of}

-- the least of these numbers that is broken
record IsFound (numbers : List ℕ) (p : ℕ → Bool) (r : ℕ) : Type 0 where
  broken : IsTrue (p r)
  least : (n : ℕ) → IsOneOf numbers n → IsTrue (p n) → r ≤ n

abbrev FindsLeast : List ℕ → (ℕ → Bool) → Option ℕ → Type 0
FindsLeast numbers p None = (n : ℕ) → IsOneOf numbers n → IsTrue (p n) → ⊥
FindsLeast numbers p (Some r) = IsFound numbers p r

same_broken : (p : ℕ → Bool) (n m : ℕ) → n ≡ m → IsTrue (p n) → IsTrue (p m)
same_broken p n m e h = subst (λ (x : ℕ). IsTrue (p x)) e h

found_here : (m : ℕ) (numbers : List ℕ) (p : ℕ → Bool) (b : Bool) → p m ≡ b → IsRising (m ∷ numbers) → (o : Option ℕ) → FindsLeast numbers p o → FindsLeast (m ∷ numbers) p (cond b (Some m) o)
found_here m numbers p true e s o f = record {
  broken = e;
  least = λ n i h. elim i [
    | inl k ↦ grind arith
    | inr k ↦ s.0 n k
  ];
}
found_here m numbers p false e s None f = λ n i h. elim i [
  | inl k ↦ absurd (grind (arith, e, same_broken p n m k h))
  | inr k ↦ f n k h
]
found_here m numbers p false e s (Some r) f = record {
  broken = f.broken;
  least = λ n i h. elim i [
    | inl k ↦ absurd (grind (arith, e, same_broken p n m k h))
    | inr k ↦ f.least n k h
  ];
}

found : (numbers : List ℕ) (p : ℕ → Bool) → IsRising numbers → FindsLeast numbers p (find p numbers)
found [] p s = λ n i h. i
found (m ∷ numbers) p s = found_here m numbers p (p m) refl s (find p numbers) (found numbers p s.1)

-- the least broken pair of so many lines
record IsFirstOf (numbers : List ℕ) (rules : Rules) (from count : ℕ) (r : Refusal) : Type 0 where
  broken : IsTrue (rules r.line r.number)
  after : from ≤ r.line
  least : (l n : ℕ) → from ≤ l → l < from + count → IsOneOf numbers n → IsTrue (rules l n) → (r.line < l) ⊎ ((r.line ≡ l) × (r.number ≤ n))

abbrev FindsFirst : List ℕ → Rules → ℕ → ℕ → Option Refusal → Type 0
FindsFirst numbers rules from count None = (l n : ℕ) → from ≤ l → l < from + count → IsOneOf numbers n → IsTrue (rules l n) → ⊥
FindsFirst numbers rules from count (Some r) = IsFirstOf numbers rules from count r

pub here_or_later : (from l : ℕ) → from ≤ l → (from ≡ l) ⊎ (from + 1 ≤ l)
here_or_later from l h = grind arith

first_on : (numbers : List ℕ) (rules : Rules) (from count : ℕ) (o : Option ℕ) (later : Option Refusal)
    → FindsLeast numbers (rules from) o → FindsFirst numbers rules (from + 1) count later → FindsFirst numbers rules from (suc count) (found_on from o later)
first_on numbers rules from count (Some r) later f g = record {
  broken = f.broken;
  after = omega arith;
  least = λ l n a b k h. elim (here_or_later from l a) [
    | inl e ↦ inr (e, f.least n k (subst (λ (x : ℕ). IsTrue (rules x n)) (sym e) h))
    | inr e ↦ inl (omega arith)
  ];
}
first_on numbers rules from count None None f g = λ l n a b k h. elim (here_or_later from l a) [
  | inl e ↦ f n k (subst (λ (x : ℕ). IsTrue (rules x n)) (sym e) h)
  | inr e ↦ g l n e (omega arith) k h
]
first_on numbers rules from count None (Some r) f g = record {
  broken = g.broken;
  after = omega (arith, g.after);
  least = λ l n a b k h. elim (here_or_later from l a) [
    | inl e ↦ absurd (f n k (subst (λ (x : ℕ). IsTrue (rules x n)) (sym e) h))
    | inr e ↦ g.least l n e (omega arith) k h
  ];
}

first : (numbers : List ℕ) (rules : Rules) (from count : ℕ) → IsRising numbers → FindsFirst numbers rules from count (least_of rules numbers (range_with_len from count))
unfolding least_of
first numbers rules from zero s = λ l n a b k h. absurd (omega arith)
first numbers rules from (suc count) s =
    first_on numbers rules from count (find (rules from) numbers) (least_of rules numbers (range_with_len (from + 1) count)) (found numbers (rules from) s) (first numbers rules (from + 1) count s)

of_first : (numbers : List ℕ) (rules : Rules) (count : ℕ) (o : Option Refusal) → IsBounded numbers count rules → FindsFirst numbers rules 0 count o → LeastOrNone rules o
of_first numbers rules count None w f = λ l n h. f l n (omega arith) (omega (arith, (w l n h).0)) (w l n h).1 h
of_first numbers rules count (Some r) w f = record {
  broken = f.broken;
  least = λ l n h. f.least l n (omega arith) (omega (arith, (w l n h).0)) (w l n h).1 h;
}

-- the search of one set
pub least_is : (numbers : List ℕ) (rules : Rules) (count : ℕ) → IsRising numbers → IsBounded numbers count rules → LeastOrNone rules (least_of rules numbers (range_with_len 0 count))
least_is numbers rules count s w = of_first numbers rules count (least_of rules numbers (range_with_len 0 count)) w (first numbers rules 0 count s)

-- a set has one least pair
only_line : (a b m n : ℕ) → (a < b) ⊎ ((a ≡ b) × (m ≤ n)) → (b < a) ⊎ ((b ≡ a) × (n ≤ m)) → (a ≡ b) × (m ≡ n)
only_line a b m n h k = (grind arith, grind arith)

abbrev refused : ℕ → ℕ → Option Refusal
refused line number = Some (record { number = number; line = line })

of_least : (rules : Rules) (o : Option Refusal) (line number : ℕ) → LeastOrNone rules o → IsLeast rules line number → o ≡ Some (record { number = number; line = line })
of_least rules None line number h f = absurd (h line number f.broken)
of_least rules (Some r) line number h f =
    let e = only_line r.line line r.number number (h.least line number f.broken) (f.least r.line r.number h.broken) in
    ap (λ (l : ℕ). refused l r.number) e.0 ∙ ap (λ (n : ℕ). refused line n) e.1

of_empty : (rules : Rules) (o : Option Refusal) → LeastOrNone rules o → IsEmpty rules → o ≡ None
of_empty rules None h e = refl
of_empty rules (Some r) h e = absurd (e r.line r.number h.broken)

of_passes : (pass : Rules) (passes : List Rules) (here later : Option Refusal) → LeastOrNone pass here → FirstOrNone passes later → FirstOrNone (pass ∷ passes) (or_found here later)
of_passes pass passes (Some r) later h f = inl h
of_passes pass passes None None h f = (h, f)
of_passes pass passes None (Some r) h f = inr (h, f)

-- the search of passes: the least pair of the first that has one, or all are empty
pub first_is : (passes : List Rules) (numbers : List ℕ) (count : ℕ) → IsRising numbers → AreBounded numbers count passes
    → FirstOrNone passes (first_of passes numbers (range_with_len 0 count))
unfolding first_of
first_is [] numbers count s w = tt
first_is (pass ∷ passes) numbers count s w =
    of_passes pass passes (least_of pass numbers (range_with_len 0 count)) (first_of passes numbers (range_with_len 0 count)) (least_is numbers pass count s w.0) (first_is passes numbers count s w.1)

-- where a pass refuses, the search finds it
pub first_found : (passes : List Rules) (numbers : List ℕ) (count line number : ℕ) → IsRising numbers → AreBounded numbers count passes → IsFirst passes line number
    → first_of passes numbers (range_with_len 0 count) ≡ Some (record { number = number; line = line })
unfolding first_of
first_found [] numbers count line number s w f = absurd f
first_found (pass ∷ passes) numbers count line number s w f = elim f [
  | inl h ↦ ap (λ (o : Option Refusal). or_found o (first_of passes numbers (range_with_len 0 count))) (of_least pass (least_of pass numbers (range_with_len 0 count)) line number (least_is numbers pass count s w.0) h)
  | inr h ↦ ap (λ (o : Option Refusal). or_found o (first_of passes numbers (range_with_len 0 count))) (of_empty pass (least_of pass numbers (range_with_len 0 count)) (least_is numbers pass count s w.0) h.0)
      ∙ first_found passes numbers count line number s w.1 h.1
]

-- where no pass refuses, it finds none
pub first_none : (passes : List Rules) (numbers : List ℕ) (count : ℕ) → IsRising numbers → AreBounded numbers count passes → AreEmpty passes
    → first_of passes numbers (range_with_len 0 count) ≡ None
unfolding first_of
first_none [] numbers count s w e = refl
first_none (pass ∷ passes) numbers count s w e =
    ap (λ (o : Option Refusal). or_found o (first_of passes numbers (range_with_len 0 count))) (of_empty pass (least_of pass numbers (range_with_len 0 count)) (least_is numbers pass count s w.0) e.0)
    ∙ first_none passes numbers count s w.1 e.1
