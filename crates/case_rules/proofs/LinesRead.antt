-- The lines of a text one by one, and the first line that breaks a rule.
use Rattle.std.proofs.Common.{ℕ, zero, suc, ◌+◌, ◌-◌, ◌<◌, ◌≤◌, ◌≡◌, ◌⊎◌, inl, inr, ◌==◌, ◌&&◌, ◌||◌, true, false, nat_lt, nat_le, Bool, IsTrue, Some, None, List, [], ◌∷◌, ◌++◌, length, take, drop, ap, subst, sym, ◌∙◌, refl, arith, add-one, lt-ltb}
use Rattle.std.proofs.lemmas.Bool.{ne_eqb, le-leb}
use Rattle.std.proofs.lemmas.Bool.Decides.{nat_tests}
use Rattle.std.proofs.Math.Bool.{or-false}
use Rattle.case_model.specs.Sets.{FindsLeast, IsEmpty, IsLeast}
use Rattle.case_rules.specs.Said.{line_at}
use Rattle.case_rules.specs.Among.{breaks_line, line_rules}

-- the line behind the first k lines
pub record IsNext (all : List (List (List ℕ))) (k : ℕ) (fields : List (List ℕ)) (others : List (List (List ℕ))) : Type 0 where
  pub there : k < length all
  pub at : line_at all k ≡ fields
  pub more : take (k + 1) all ≡ take k all ++ fields ∷ []
  pub left : drop (k + 1) all ≡ others

at_head : (all : List (List (List ℕ))) (fields : List (List ℕ)) (others : List (List (List ℕ))) → all ≡ fields ∷ others → IsNext all 0 fields others
at_head all fields others e = rw e (record { there = omega arith; at = refl; more = refl; left = refl })

pub next : (all : List (List (List ℕ))) (k : ℕ) (fields : List (List ℕ)) (others : List (List (List ℕ))) → drop k all ≡ fields ∷ others → IsNext all k fields others
next all zero fields others e = at_head all fields others e
next [] (suc k) fields others e = absurd (cc)
next (x ∷ all) (suc k) fields others e =
    let n = next all k fields others e in
    record {
      there = omega (arith, n.there);
      at = n.at;
      more = rw add-one (ap (λ (ls : List (List (List ℕ))). x ∷ ls) (rw add-one at n.more));
      left = rw add-one (rw add-one at n.left);
    }

-- the rules of the line behind the first k lines
rules_here : (all : List (List (List ℕ))) (k : ℕ) (fields : List (List ℕ)) (others : List (List (List ℕ))) (number : ℕ) → IsNext all k fields others
    → line_rules all (k + 1) number ≡ breaks_line (take k all) all (k + 1) fields number
unfolding line_rules
rules_here all k fields others number n =
    let o : k + 1 - 1 ≡ k = omega arith in
    let p : nat_lt 0 (k + 1) ≡ true = lt-ltb 0 (k + 1) (omega arith) in
    let q : nat_le (k + 1) (length all) ≡ true = le-leb (k + 1) (length all) (omega (arith, n.there)) in
    let z : (length all == 0) ≡ false = ne_eqb (length all) 0 (λ z. absurd (omega (arith, n.there))) in
    let a = n.at in
    rw (p, q, z, o, a) (or-false (breaks_line (take k all) all (k + 1) fields number))

later : (l line n number : ℕ) → (l ≡ line → number ≤ n) → line ≤ l → (line < l) ⊎ ((line ≡ l) × (number ≤ n))
later l line n number f h = grind arith

-- the first line that breaks a rule, with the least rule that it breaks
pub refused_least : (all : List (List (List ℕ))) (k : ℕ) (fields : List (List ℕ)) (others : List (List (List ℕ))) (number : ℕ) → IsNext all k fields others
    → ((l n : ℕ) → IsTrue (line_rules all l n) → k < l) → FindsLeast (breaks_line (take k all) all (k + 1) fields) (Some number) → IsLeast (line_rules all) (k + 1) number
refused_least all k fields others number i kept f = record {
  broken = rules_here all k fields others number i ∙ f.0;
  least = λ l n h. later l (k + 1) n number (λ e. f.1 n (sym (rules_here all k fields others n i) ∙ subst (λ (x : ℕ). IsTrue (line_rules all x n)) e h)) (omega (arith, kept l n h));
}

apart : (k l : ℕ) → k < l → (l ≡ k + 1 → ⊥) → k + 1 < l
apart k l h f = grind arith

-- a line that breaks none
pub kept_more : (all : List (List (List ℕ))) (k : ℕ) (fields : List (List ℕ)) (others : List (List (List ℕ))) → IsNext all k fields others
    → ((l n : ℕ) → IsTrue (line_rules all l n) → k < l) → FindsLeast (breaks_line (take k all) all (k + 1) fields) None → (l n : ℕ) → IsTrue (line_rules all l n) → k + 1 < l
kept_more all k fields others i kept f l n h = apart k l (kept l n h) (λ e. f n (sym (rules_here all k fields others n i) ∙ subst (λ (x : ℕ). IsTrue (line_rules all x n)) e h))

within_of : (p q b : Bool) (l n m : ℕ) → nat_lt 0 l ≡ p → nat_le l m ≡ q → IsTrue ((p && q && b) || ((m == 0) && (l == 1) && (n == 1))) → (0 < l) × ((l ≤ m) ⊎ ((m ≡ 0) × (l ≡ 1)))
within_of p q b l n m e f h = (grind (arith, nat_tests), grind (arith, nat_tests))

-- a broken rule stands on a line of the text, or on line 1
within : (all : List (List (List ℕ))) (l n : ℕ) → IsTrue (line_rules all l n) → (0 < l) × ((l ≤ length all) ⊎ ((length all ≡ 0) × (l ≡ 1)))
unfolding line_rules
within all l n h = within_of (nat_lt 0 l) (nat_le l (length all)) (breaks_line (take (l - 1) all) all l (line_at all (l - 1)) n) l n (length all) refl refl h

pub kept_none : (all : List (List (List ℕ))) (l n : ℕ) → IsTrue (line_rules all l n) → 0 < l
kept_none all l n h = (within all l n h).0

drop_all : (all : List (List (List ℕ))) (k : ℕ) → drop k all ≡ [] → length all ≤ k
drop_all [] k e = omega arith
drop_all (x ∷ all) zero e = absurd (cc)
drop_all (x ∷ all) (suc k) e = omega (arith, drop_all all k e)

past : (all : List (List (List ℕ))) (k l : ℕ) → drop k all ≡ [] → 0 < k → k < l → (l ≤ length all) ⊎ ((length all ≡ 0) × (l ≡ 1)) → ⊥
past all k l e p h (inl a) = omega (arith, drop_all all k e)
past all k l e p h (inr a) = omega arith

-- lines none of which breaks a rule
pub all_kept : (all : List (List (List ℕ))) (k : ℕ) → drop k all ≡ [] → 0 < k → ((l n : ℕ) → IsTrue (line_rules all l n) → k < l) → IsEmpty (line_rules all)
all_kept all k e p kept = λ l n h. past all k l e p (kept l n h) (within all l n h).1

empty_least : IsLeast (line_rules []) 1 1
unfolding line_rules
empty_least = record { broken = refl; least = λ l n h. grind (arith, nat_tests) }

-- a text without a line breaks the rule of the first line
pub none_least : (all : List (List (List ℕ))) → all ≡ [] → IsLeast (line_rules all) 1 1
none_least all e = rw e empty_least

pub some_line : (all : List (List (List ℕ))) (k : ℕ) → drop k all ≡ [] → k ≡ 0 → all ≡ []
some_line [] k e z = refl
some_line (x ∷ all) zero e z = absurd (cc)
some_line (x ∷ all) (suc k) e z = absurd (omega arith)
