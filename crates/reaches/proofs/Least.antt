-- The least broken rule of more and more items.
use Rattle.std.proofs.Common.{◌≡◌, ℕ, ◌+◌, Option, Some, None, subst, sym, ◌∙◌, arith}
use Rattle.case_model.specs.Search.{Refusal}
use Rattle.case_model.proofs.Sets.{any_next}
use Rattle.case_model.specs.Sets.{Rules, IsLeast, either, any_below}
use Rattle.case_model.specs.Bounds.{LeastOrNone}

pub least_as : (rules : Rules) (o : Option Refusal) (r : Refusal) → o ≡ Some r → LeastOrNone rules o → IsLeast rules r.line r.number
least_as rules o r e f = subst (LeastOrNone rules) e f

-- two sets with the same pairs have the same least one
pub least_same : (some others : Rules) (o : Option Refusal) → ((l n : ℕ) → some l n ≡ others l n) → LeastOrNone some o → LeastOrNone others o
least_same some others None e f = λ l n h. f l n (e l n ∙ h)
least_same some others (Some r) e f = record {
  broken = sym (e r.line r.number) ∙ f.broken;
  least = λ l n h. f.least l n (e l n ∙ h);
}

pub least_more : (rules : ℕ → Rules) (n : ℕ) (o : Option Refusal) → LeastOrNone (either (any_below rules n) (rules n)) o → LeastOrNone (any_below rules (n + 1)) o
least_more rules n o f = least_same (either (any_below rules n) (rules n)) (any_below rules (n + 1)) o (any_next rules n) f

pub least_none : (rules : ℕ → Rules) → LeastOrNone (any_below rules 0) None
unfolding any_below
least_none rules = λ l n h. grind arith

pub least_all : (rules : ℕ → Rules) (m n : ℕ) (o : Option Refusal) → m ≡ n → LeastOrNone (any_below rules m) o → LeastOrNone (any_below rules n) o
least_all rules m n o e f = subst (λ (k : ℕ). LeastOrNone (any_below rules k) o) e f
