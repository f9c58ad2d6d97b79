-- A greatest and a least value of a run of values, where the run is written in another way.
use Rattle.std.proofs.Common.{◌≡◌, ◌∙◌, ℕ, ◌≤◌, ℤ, sym, subst, Option, arith}
use Rattle.std.specs.Prelude.{◌≤ℤ◌, IfSome}
use Rattle.case_model.specs.Samples.{IsGreatest, IsSmallest}

pub same-greatest : (f g : ℕ → Option ℤ) (last : ℕ) (x : ℤ) (s : ℕ) → ((u : ℕ) → u ≤ last → f u ≡ g u) → IsGreatest f last x s → IsGreatest g last x s
same-greatest f g last x s e p = record {
  within = p.within;
  stands = sym (e s p.within) ∙ p.stands;
  bound = λ u h. subst (λ o. IfSome o (λ v. v ≤ℤ x)) (e u h) (p.bound u h);
  first = λ u h q. let w : s ≤ last = p.within in p.first u h (e u (omega arith) ∙ q);
}

pub same-smallest : (f g : ℕ → Option ℤ) (last : ℕ) (x : ℤ) (s : ℕ) → ((u : ℕ) → u ≤ last → f u ≡ g u) → IsSmallest f last x s → IsSmallest g last x s
same-smallest f g last x s e p = record {
  within = p.within;
  stands = sym (e s p.within) ∙ p.stands;
  bound = λ u h. subst (λ o. IfSome o (λ v. x ≤ℤ v)) (e u h) (p.bound u h);
  first = λ u h q. let w : s ≤ last = p.within in p.first u h (e u (omega arith) ∙ q);
}
