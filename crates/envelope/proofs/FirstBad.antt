-- The first Bad noting of two maps together.
use Rattle.std.proofs.Common.{◌≡◌, ◌∙◌, ℕ, ◌<◌, ◌≤◌, ◌⊎◌, inl, inr, refl, sym, subst, true, false, List, Option, Some, None, arith}
use Rattle.envelope.specs.Cells.{is_within}
use Rattle.envelope.specs.Faults.{IsFirstBad, HasFault, IsEarlier}
use Rattle.envelope.specs.Notings.{Noting, Noted, Agree, union, is_bad_noting}
use Rattle.std.specs.Option.{option_or}

bad-first : (a b : Option Noting) → is_bad_noting a ≡ true → is_bad_noting (option_or a b) ≡ true
bad-first None b h = cc
bad-first (Some x) b h = h

bad-second : (a b : Option Noting) → ((x y : Noting) → a ≡ Some x → b ≡ Some y → x ≡ y) → is_bad_noting b ≡ true → is_bad_noting (option_or a b) ≡ true
bad-second None b h e = e
bad-second (Some x) None h e = cc
bad-second (Some x) (Some y) h e = subst (λ z. is_bad_noting (Some z) ≡ true) (sym (h x y refl refl)) e

bad-either : (a b : Option Noting) → is_bad_noting (option_or a b) ≡ true → (is_bad_noting a ≡ true) ⊎ (is_bad_noting b ≡ true)
bad-either None b h = inr h
bad-either (Some x) b h = inl h

good-both : (a b : Option Noting) → is_bad_noting a ≡ false → is_bad_noting b ≡ false → is_bad_noting (option_or a b) ≡ false
good-both None b h k = k
good-both (Some x) b h k = h

pub earlier-still : (s k t i u j : ℕ) → (s < t) ⊎ ((s ≡ t) × (k ≤ i)) → (t < u) ⊎ ((t ≡ u) × (i ≤ j)) → (s < u) ⊎ ((s ≡ u) × (k ≤ j))
earlier-still s k t i u j (inl h) (inl m) = inl (omega arith)
earlier-still s k t i u j (inl h) (inr m) = let e : t ≡ u = m.0 in inl (omega arith)
earlier-still s k t i u j (inr h) (inl m) = let e : s ≡ t = h.0 in inl (omega arith)
earlier-still s k t i u j (inr h) (inr m) = let a : k ≤ i = h.1 in let b : i ≤ j = m.1 in inr (h.0 ∙ m.0, omega arith)

pub first-of-two : (spans : List (ℕ × ℕ)) (last : ℕ) (map more : Noted) (s k : ℕ) → IsFirstBad spans last map s k
    → ((u j : ℕ) → u ≤ last → is_within spans j ≡ true → is_bad_noting (more u j) ≡ true → (s < u) ⊎ ((s ≡ u) × (k ≤ j)))
    → IsFirstBad spans last (union map more) s k
first-of-two spans last map more s k p rest = record {
  within = p.within;
  inside = p.inside;
  bad = bad-first (map s k) (more s k) p.bad;
  least = λ u j l w h. elim (bad-either (map u j) (more u j) h) [ inl a ↦ p.least u j l w a | inr b ↦ rest u j l w b ];
}

pub second-of-two : (spans : List (ℕ × ℕ)) (last : ℕ) (map more : Noted) (s k : ℕ) → Agree map more → IsFirstBad spans last more s k
    → ((u j : ℕ) → u ≤ last → is_within spans j ≡ true → is_bad_noting (map u j) ≡ true → (s < u) ⊎ ((s ≡ u) × (k ≤ j)))
    → IsFirstBad spans last (union map more) s k
second-of-two spans last map more s k g p rest = record {
  within = p.within;
  inside = p.inside;
  bad = bad-second (map s k) (more s k) (g s k) p.bad;
  least = λ u j l w h. elim (bad-either (map u j) (more u j) h) [ inl a ↦ rest u j l w a | inr b ↦ p.least u j l w b ];
}

not-both : (a : Option Noting) → is_bad_noting a ≡ false → is_bad_noting a ≡ true → ⊥
not-both a h k = cc

pub joined-fault : (spans : List (ℕ × ℕ)) (last : ℕ) (map more : Noted) (a b r : ℕ × ℕ) → Agree map more → IsFirstBad spans last map a.0 a.1 → IsFirstBad spans last more b.0 b.1
    → ((r ≡ a) × IsEarlier a b) ⊎ ((r ≡ b) × IsEarlier b a) → IsFirstBad spans last (union map more) r.0 r.1
joined-fault spans last map more a b r g p q (inl h) =
    subst (λ (f : ℕ × ℕ). IsFirstBad spans last (union map more) f.0 f.1) (sym h.0)
    (first-of-two spans last map more a.0 a.1 p (λ u j l w e. earlier-still a.0 a.1 b.0 b.1 u j h.1 (q.least u j l w e)))
joined-fault spans last map more a b r g p q (inr h) =
    subst (λ (f : ℕ × ℕ). IsFirstBad spans last (union map more) f.0 f.1) (sym h.0)
    (second-of-two spans last map more b.0 b.1 g q (λ u j l w e. earlier-still b.0 b.1 a.0 a.1 u j h.1 (p.least u j l w e)))

pub first-alone : (spans : List (ℕ × ℕ)) (last : ℕ) (map more : Noted) (a : ℕ × ℕ) → HasFault spans last map (Some a) → HasFault spans last more None → HasFault spans last (union map more) (Some a)
first-alone spans last map more a p q = first-of-two spans last map more a.0 a.1 p (λ u j l w e. absurd (not-both (more u j) (q u j l w) e))

pub second-alone : (spans : List (ℕ × ℕ)) (last : ℕ) (map more : Noted) (b : Option (ℕ × ℕ)) → Agree map more → HasFault spans last map None → HasFault spans last more b → HasFault spans last (union map more) b
second-alone spans last map more None g p q = λ s k l w. good-both (map s k) (more s k) (p s k l w) (q s k l w)
second-alone spans last map more (Some b) g p q = second-of-two spans last map more b.0 b.1 g q (λ u j l w e. absurd (not-both (map u j) (p u j l w) e))
