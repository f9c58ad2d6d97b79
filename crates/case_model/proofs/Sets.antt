-- Sets of rules over one item more.
use Rattle.std.proofs.Common.{◌≡◌, ℕ, zero, suc, ◌+◌, ◌||◌, Bool, ap, sym, ◌∙◌, add-one, arith}
use Rattle.std.proofs.Math.Bool.{or-false, or_assoc}
use Rattle.std.specs.List.{list_any, range_with_len}
use Rattle.case_model.specs.Sets.{Rules, either, any_below}

pub any_suc : (p : ℕ → Bool) (a n : ℕ) → list_any p (range_with_len a (suc n)) ≡ (list_any p (range_with_len a n) || p (a + n))
any_suc p a zero = or-false (p a) ∙ ap p (omega arith)
any_suc p a (suc n) =
    ap (λ (b : Bool). p a || b) (any_suc p (a + 1) n ∙ ap (λ (k : ℕ). list_any p (range_with_len (a + 1) n) || p k) (omega arith))
    ∙ sym (or_assoc (p a) (list_any p (range_with_len (a + 1) n)) (p (a + suc n)))

pub any_next : (rules : ℕ → Rules) (n : ℕ) (line number : ℕ) → either (any_below rules n) (rules n) line number ≡ any_below rules (n + 1) line number
unfolding any_below
any_next rules n line number = rw add-one (sym (any_suc (λ k. rules k line number) 0 n ∙ ap (λ (k : ℕ). list_any (λ k. rules k line number) (range_with_len 0 n) || rules k line number) (omega arith)))
