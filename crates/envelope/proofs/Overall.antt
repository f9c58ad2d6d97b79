-- The greatest and the least value of a run, found step by step, and what they are.
use Rattle.std.proofs.Common.{◌≡◌, ◌≢◌, ◌∙◌, ℕ, zero, suc, ◌≤◌, ◌⊎◌, inl, inr, ℤ, refl, sym, ap, subst, Bool, true, false, Option, Some, None, arith}
use Rattle.std.specs.Prelude.{◌≤ℤ◌, ◌<ℤ◌, int_lt, if◌then◌else◌, IfSome}
use Rattle.std.proofs.lemmas.Int.{ints}
use Rattle.case_model.specs.Samples.{Sample, head_of, volume_of, IsGreatest, IsSmallest}
use Rattle.envelope.specs.Extremes.{greater_or, lesser_or, greatest_over, least_over, or_zero, extreme_over, IsEnvelopeOf}
use Rattle.envelope.specs.declared.extremes.Extreme.{Extreme}
use Rattle.fixed_num.proofs.Orders.{less_of, not_less_of}
use Rattle.fixed_num.proofs.Between.{le_or_more}

le-both : (x y : ℤ) → x ≤ℤ y → y ≤ℤ x → x ≡ y
le-both x y h k = omega (arith, ints)

le-lt : (x y z : ℤ) → x ≤ℤ y → y <ℤ z → x ≤ℤ z
le-lt x y z h k = omega (arith, ints)

le-self : (x : ℤ) → x ≤ℤ x
le-self x = omega (arith, ints)

not-over : (x y : ℤ) → x <ℤ y → y ≤ℤ x → ⊥
not-over x y h k = omega (arith, ints)

one-value : (o : Option ℤ) (x y : ℤ) → o ≡ Some x → o ≡ Some y → x ≡ y
one-value o x y h k = cc

-- what is bounded is bounded by more
wider-above : (o : Option ℤ) (x y : ℤ) → x <ℤ y → IfSome o (λ v. v ≤ℤ x) → IfSome o (λ v. v ≤ℤ y)
wider-above None x y h k = tt
wider-above (Some v) x y h k = le-lt v x y k h

wider-below : (o : Option ℤ) (x y : ℤ) → y <ℤ x → IfSome o (λ v. x ≤ℤ v) → IfSome o (λ v. y ≤ℤ v)
wider-below None x y h k = tt
wider-below (Some v) x y h k = omega (arith, ints)

bound-of : (P : ℤ → Type 0) (o : Option ℤ) (x : ℤ) → o ≡ Some x → P x → IfSome o P
bound-of P None x e h = tt
bound-of P (Some v) x e h = let q : v ≡ x = cc in subst P (sym q) h

bound-at : (P : ℤ → Type 0) (o : Option ℤ) (x : ℤ) → o ≡ Some x → IfSome o P → P x
bound-at P None x e h = cc
bound-at P (Some v) x e h = let q : v ≡ x = cc in subst P q h

bound-none : (P : ℤ → Type 0) (o : Option ℤ) → o ≡ None → IfSome o P
bound-none P None e = tt
bound-none P (Some v) e = cc

-- a step up to one more is an earlier one or that
up-to : (s last : ℕ) → s ≤ suc last → (s ≤ last) ⊎ (s ≡ suc last)
up-to s last h = grind arith

-- ---- the greatest

abbrev TellsGreatest : (ℕ → Option ℤ) → ℕ → Option (ℤ × ℕ) → Type 0
TellsGreatest value last None = (s : ℕ) → s ≤ last → value s ≡ None
TellsGreatest value last (Some best) = IsGreatest value last best.0 best.1

greatest-first : (value : ℕ → Option ℤ) (o : Option ℤ) → value 0 ≡ o → TellsGreatest value 0 (greater_or None o 0)
greatest-first value None e = λ s h. let z : s ≡ 0 = omega arith in subst (λ u. value u ≡ None) (sym z) e
greatest-first value (Some x) e = record {
  within = omega arith;
  stands = e;
  bound = λ s h. let z : s ≡ 0 = omega arith in bound-of (λ v. v ≤ℤ x) (value s) x (ap value z ∙ e) (le-self x);
  first = λ s h. absurd (omega arith);
}

greatest-new : (value : ℕ → Option ℤ) (last : ℕ) (x : ℤ) → ((s : ℕ) → s ≤ last → IfSome (value s) (λ v. v ≤ℤ x)) → ((s : ℕ) → s ≤ last → value s ≢ Some x) → value (suc last) ≡ Some x → IsGreatest value (suc last) x (suc last)
greatest-new value last x h n e = record {
  within = omega arith;
  stands = e;
  bound = λ s l. elim (up-to s last l) [ inl a ↦ h s a | inr b ↦ bound-of (λ v. v ≤ℤ x) (value s) x (ap value b ∙ e) (le-self x) ];
  first = λ s l. n s (omega arith);
}

greatest-still : (value : ℕ → Option ℤ) (last : ℕ) (x : ℤ) (s : ℕ) → IsGreatest value last x s → IfSome (value (suc last)) (λ v. v ≤ℤ x) → IsGreatest value (suc last) x s
greatest-still value last x s p h = record {
  within = let w : s ≤ last = p.within in omega arith;
  stands = p.stands;
  bound = λ u l. elim (up-to u last l) [ inl a ↦ p.bound u a | inr b ↦ subst (λ t. IfSome (value t) (λ v. v ≤ℤ x)) (sym b) h ];
  first = p.first;
}

-- a value over the greatest stood at none of the steps
not-before : (value : ℕ → Option ℤ) (last : ℕ) (x y : ℤ) (s t : ℕ) → IsGreatest value last x s → x <ℤ y → t ≤ last → value t ≢ Some y
not-before value last x y s t p h l = λ e. not-over x y h (bound-at (λ v. v ≤ℤ x) (value t) y e (p.bound t l))

greatest-by : (value : ℕ → Option ℤ) (last : ℕ) (best : ℤ × ℕ) (x : ℤ) (b : Bool) → int_lt best.0 x ≡ b → IsGreatest value last best.0 best.1 → value (suc last) ≡ Some x
    → TellsGreatest value (suc last) (if b then Some (x, suc last) else Some best)
greatest-by value last best x true h p e =
    greatest-new value last x (λ s l. wider-above (value s) best.0 x (less_of best.0 x h) (p.bound s l)) (λ s l. not-before value last best.0 x best.1 s p (less_of best.0 x h) l) e
greatest-by value last best x false h p e = greatest-still value last best.0 best.1 p (bound-of (λ v. v ≤ℤ best.0) (value (suc last)) x e (not_less_of best.0 x h))

greatest-more : (value : ℕ → Option ℤ) (last : ℕ) (best : Option (ℤ × ℕ)) (o : Option ℤ) → TellsGreatest value last best → value (suc last) ≡ o → TellsGreatest value (suc last) (greater_or best o (suc last))
greatest-more value last None None p e = λ s l. elim (up-to s last l) [ inl a ↦ p s a | inr b ↦ ap value b ∙ e ]
greatest-more value last (Some best) None p e = greatest-still value last best.0 best.1 p (bound-none (λ v. v ≤ℤ best.0) (value (suc last)) e)
greatest-more value last None (Some x) p e =
    greatest-new value last x (λ s l. bound-none (λ v. v ≤ℤ x) (value s) (p s l)) (λ s l q. let n = p s l in cc) e
greatest-more value last (Some best) (Some x) p e = greatest-by value last best x (int_lt best.0 x) refl p e

greatest-tells : (value : ℕ → Option ℤ) (last : ℕ) → TellsGreatest value last (greatest_over value last)
unfolding greatest_over
greatest-tells value zero = greatest-first value (value 0) refl
greatest-tells value (suc last) = greatest-more value last (greatest_over value last) (value (suc last)) (greatest-tells value last) refl

-- there is one greatest value, and one first step of it
not-earlier : (value : ℕ → Option ℤ) (last : ℕ) (x y : ℤ) (s t : ℕ) → x ≡ y → IsGreatest value last x s → IsGreatest value last y t → s ≤ t
not-earlier value last x y s t e p q = elim (le_or_more s t) [
  | inl h ↦ h
  | inr h ↦ absurd (p.first t h (q.stands ∙ ap (λ v. Some v) (sym e)))
]

pub one-greatest : (value : ℕ → Option ℤ) (last : ℕ) (x y : ℤ) (s t : ℕ) → IsGreatest value last x s → IsGreatest value last y t → (x ≡ y) × (s ≡ t)
one-greatest value last x y s t p q =
    let e : x ≡ y = le-both x y (bound-at (λ v. v ≤ℤ y) (value s) x p.stands (q.bound s p.within)) (bound-at (λ v. v ≤ℤ x) (value t) y q.stands (p.bound t q.within)) in
    let a : s ≤ t = not-earlier value last x y s t e p q in
    let b : t ≤ s = not-earlier value last y x t s (sym e) q p in
    (e, omega arith)

same-pair : (x y : ℤ) (s t : ℕ) → (x ≡ y) × (s ≡ t) → ◌≡◌ {A = Option (ℤ × ℕ)} (Some (x, s)) (Some (y, t))
same-pair x y s t h = cc

greatest-found : (value : ℕ → Option ℤ) (last : ℕ) (o : Option (ℤ × ℕ)) (x : ℤ) (s : ℕ) → TellsGreatest value last o → IsGreatest value last x s → o ≡ Some (x, s)
greatest-found value last None x s h p = let n : value s ≡ None = h s p.within in let k : value s ≡ Some x = p.stands in cc
greatest-found value last (Some best) x s h p = same-pair best.0 x best.1 s (one-greatest value last best.0 x best.1 s h p)

pub greatest-is : (value : ℕ → Option ℤ) (last : ℕ) (x : ℤ) (s : ℕ) → IsGreatest value last x s → greatest_over value last ≡ Some (x, s)
greatest-is value last x s p = greatest-found value last (greatest_over value last) x s (greatest-tells value last) p

pub is-greatest : (value : ℕ → Option ℤ) (last : ℕ) (x : ℤ) (s : ℕ) → greatest_over value last ≡ Some (x, s) → IsGreatest value last x s
is-greatest value last x s e = subst (TellsGreatest value last) e (greatest-tells value last)

pub no-greatest : (value : ℕ → Option ℤ) (last : ℕ) → greatest_over value last ≡ None → (s : ℕ) → s ≤ last → value s ≡ None
no-greatest value last e = subst (TellsGreatest value last) e (greatest-tells value last)

nothing-greatest : (value : ℕ → Option ℤ) (last : ℕ) (o : Option (ℤ × ℕ)) → TellsGreatest value last o → ((s : ℕ) → s ≤ last → value s ≡ None) → o ≡ None
nothing-greatest value last None h n = refl
nothing-greatest value last (Some best) h n = let w : value best.1 ≡ None = n best.1 h.within in let k : value best.1 ≡ Some best.0 = h.stands in cc

pub greatest-of_none : (value : ℕ → Option ℤ) (last : ℕ) → ((s : ℕ) → s ≤ last → value s ≡ None) → greatest_over value last ≡ None
greatest-of_none value last n = nothing-greatest value last (greatest_over value last) (greatest-tells value last) n

-- ---- the least

abbrev TellsLeast : (ℕ → Option ℤ) → ℕ → Option (ℤ × ℕ) → Type 0
TellsLeast value last None = (s : ℕ) → s ≤ last → value s ≡ None
TellsLeast value last (Some best) = IsSmallest value last best.0 best.1

least-first : (value : ℕ → Option ℤ) (o : Option ℤ) → value 0 ≡ o → TellsLeast value 0 (lesser_or None o 0)
least-first value None e = λ s h. let z : s ≡ 0 = omega arith in subst (λ u. value u ≡ None) (sym z) e
least-first value (Some x) e = record {
  within = omega arith;
  stands = e;
  bound = λ s h. let z : s ≡ 0 = omega arith in bound-of (λ v. x ≤ℤ v) (value s) x (ap value z ∙ e) (le-self x);
  first = λ s h. absurd (omega arith);
}

least-new : (value : ℕ → Option ℤ) (last : ℕ) (x : ℤ) → ((s : ℕ) → s ≤ last → IfSome (value s) (λ v. x ≤ℤ v)) → ((s : ℕ) → s ≤ last → value s ≢ Some x) → value (suc last) ≡ Some x → IsSmallest value (suc last) x (suc last)
least-new value last x h n e = record {
  within = omega arith;
  stands = e;
  bound = λ s l. elim (up-to s last l) [ inl a ↦ h s a | inr b ↦ bound-of (λ v. x ≤ℤ v) (value s) x (ap value b ∙ e) (le-self x) ];
  first = λ s l. n s (omega arith);
}

least-still : (value : ℕ → Option ℤ) (last : ℕ) (x : ℤ) (s : ℕ) → IsSmallest value last x s → IfSome (value (suc last)) (λ v. x ≤ℤ v) → IsSmallest value (suc last) x s
least-still value last x s p h = record {
  within = let w : s ≤ last = p.within in omega arith;
  stands = p.stands;
  bound = λ u l. elim (up-to u last l) [ inl a ↦ p.bound u a | inr b ↦ subst (λ t. IfSome (value t) (λ v. x ≤ℤ v)) (sym b) h ];
  first = p.first;
}

not-below : (value : ℕ → Option ℤ) (last : ℕ) (x y : ℤ) (s t : ℕ) → IsSmallest value last x s → y <ℤ x → t ≤ last → value t ≢ Some y
not-below value last x y s t p h l = λ e. not-over y x h (bound-at (λ v. x ≤ℤ v) (value t) y e (p.bound t l))

least-by : (value : ℕ → Option ℤ) (last : ℕ) (best : ℤ × ℕ) (x : ℤ) (b : Bool) → int_lt x best.0 ≡ b → IsSmallest value last best.0 best.1 → value (suc last) ≡ Some x
    → TellsLeast value (suc last) (if b then Some (x, suc last) else Some best)
least-by value last best x true h p e =
    least-new value last x (λ s l. wider-below (value s) best.0 x (less_of x best.0 h) (p.bound s l)) (λ s l. not-below value last best.0 x best.1 s p (less_of x best.0 h) l) e
least-by value last best x false h p e = least-still value last best.0 best.1 p (bound-of (λ v. best.0 ≤ℤ v) (value (suc last)) x e (not_less_of x best.0 h))

least-more : (value : ℕ → Option ℤ) (last : ℕ) (best : Option (ℤ × ℕ)) (o : Option ℤ) → TellsLeast value last best → value (suc last) ≡ o → TellsLeast value (suc last) (lesser_or best o (suc last))
least-more value last None None p e = λ s l. elim (up-to s last l) [ inl a ↦ p s a | inr b ↦ ap value b ∙ e ]
least-more value last (Some best) None p e = least-still value last best.0 best.1 p (bound-none (λ v. best.0 ≤ℤ v) (value (suc last)) e)
least-more value last None (Some x) p e =
    least-new value last x (λ s l. bound-none (λ v. x ≤ℤ v) (value s) (p s l)) (λ s l q. let n = p s l in cc) e
least-more value last (Some best) (Some x) p e = least-by value last best x (int_lt x best.0) refl p e

least-tells : (value : ℕ → Option ℤ) (last : ℕ) → TellsLeast value last (least_over value last)
unfolding least_over
least-tells value zero = least-first value (value 0) refl
least-tells value (suc last) = least-more value last (least_over value last) (value (suc last)) (least-tells value last) refl

not-sooner : (value : ℕ → Option ℤ) (last : ℕ) (x y : ℤ) (s t : ℕ) → x ≡ y → IsSmallest value last x s → IsSmallest value last y t → s ≤ t
not-sooner value last x y s t e p q = elim (le_or_more s t) [
  | inl h ↦ h
  | inr h ↦ absurd (p.first t h (q.stands ∙ ap (λ v. Some v) (sym e)))
]

pub one-least : (value : ℕ → Option ℤ) (last : ℕ) (x y : ℤ) (s t : ℕ) → IsSmallest value last x s → IsSmallest value last y t → (x ≡ y) × (s ≡ t)
one-least value last x y s t p q =
    let e : x ≡ y = le-both x y (bound-at (λ v. x ≤ℤ v) (value t) y q.stands (p.bound t q.within)) (bound-at (λ v. y ≤ℤ v) (value s) x p.stands (q.bound s p.within)) in
    let a : s ≤ t = not-sooner value last x y s t e p q in
    let b : t ≤ s = not-sooner value last y x t s (sym e) q p in
    (e, omega arith)

least-found : (value : ℕ → Option ℤ) (last : ℕ) (o : Option (ℤ × ℕ)) (x : ℤ) (s : ℕ) → TellsLeast value last o → IsSmallest value last x s → o ≡ Some (x, s)
least-found value last None x s h p = let n : value s ≡ None = h s p.within in let k : value s ≡ Some x = p.stands in cc
least-found value last (Some best) x s h p = same-pair best.0 x best.1 s (one-least value last best.0 x best.1 s h p)

pub least-is : (value : ℕ → Option ℤ) (last : ℕ) (x : ℤ) (s : ℕ) → IsSmallest value last x s → least_over value last ≡ Some (x, s)
least-is value last x s p = least-found value last (least_over value last) x s (least-tells value last) p

pub is-least : (value : ℕ → Option ℤ) (last : ℕ) (x : ℤ) (s : ℕ) → least_over value last ≡ Some (x, s) → IsSmallest value last x s
is-least value last x s e = subst (TellsLeast value last) e (least-tells value last)

pub no-least : (value : ℕ → Option ℤ) (last : ℕ) → least_over value last ≡ None → (s : ℕ) → s ≤ last → value s ≡ None
no-least value last e = subst (TellsLeast value last) e (least-tells value last)

nothing-least : (value : ℕ → Option ℤ) (last : ℕ) (o : Option (ℤ × ℕ)) → TellsLeast value last o → ((s : ℕ) → s ≤ last → value s ≡ None) → o ≡ None
nothing-least value last None h n = refl
nothing-least value last (Some best) h n = let w : value best.1 ≡ None = n best.1 h.within in let k : value best.1 ≡ Some best.0 = h.stands in cc

pub least-of_none : (value : ℕ → Option ℤ) (last : ℕ) → ((s : ℕ) → s ≤ last → value s ≡ None) → least_over value last ≡ None
least-of_none value last n = nothing-least value last (least_over value last) (least-tells value last) n

-- ---- the envelope

same-fields : (e : Extreme) (a b c : ℤ × ℕ) → a ≡ (e.max, e.max_step) → b ≡ (e.min, e.min_step) → c ≡ (e.volume, e.volume_step)
    → e ≡ record { max = a.0; max_step = a.1; min = b.0; min_step = b.1; volume = c.0; volume_step = c.1 }
same-fields e a b c p q r = rw (p, q, r) refl

pub envelope-is : (f : ℕ → Option Sample) (last : ℕ) (e : Extreme) → IsEnvelopeOf f last e → e ≡ extreme_over f last
unfolding extreme_over
envelope-is f last e p =
    same-fields e (or_zero (greatest_over (λ s. head_of (f s)) last)) (or_zero (least_over (λ s. head_of (f s)) last)) (or_zero (greatest_over (λ s. volume_of (f s)) last))
    (ap or_zero (greatest-is (λ s. head_of (f s)) last e.max e.max_step p.greatest_head))
    (ap or_zero (least-is (λ s. head_of (f s)) last e.min e.min_step p.least_head))
    (ap or_zero (greatest-is (λ s. volume_of (f s)) last e.volume e.volume_step p.greatest_volume))

-- where something is taken at the first step there is an extreme
head-there : (o : Option Sample) → o ≢ None → head_of o ≢ None
head-there None h e = h refl
head-there (Some s) h e = cc

volume-there : (o : Option Sample) → o ≢ None → volume_of o ≢ None
volume-there None h e = h refl
volume-there (Some s) h e = cc

greatest-zero : (value : ℕ → Option ℤ) (last : ℕ) (o : Option (ℤ × ℕ)) → value 0 ≢ None → TellsGreatest value last o → IsGreatest value last (or_zero o).0 (or_zero o).1
greatest-zero value last None n h = absurd (n (h 0 (omega arith)))
greatest-zero value last (Some best) n h = h

least-zero : (value : ℕ → Option ℤ) (last : ℕ) (o : Option (ℤ × ℕ)) → value 0 ≢ None → TellsLeast value last o → IsSmallest value last (or_zero o).0 (or_zero o).1
least-zero value last None n h = absurd (n (h 0 (omega arith)))
least-zero value last (Some best) n h = h

pub is-envelope : (f : ℕ → Option Sample) (last : ℕ) → f 0 ≢ None → IsEnvelopeOf f last (extreme_over f last)
unfolding extreme_over
is-envelope f last n = record {
  greatest_head = greatest-zero (λ s. head_of (f s)) last (greatest_over (λ s. head_of (f s)) last) (head-there (f 0) n) (greatest-tells (λ s. head_of (f s)) last);
  least_head = least-zero (λ s. head_of (f s)) last (least_over (λ s. head_of (f s)) last) (head-there (f 0) n) (least-tells (λ s. head_of (f s)) last);
  greatest_volume = greatest-zero (λ s. volume_of (f s)) last (greatest_over (λ s. volume_of (f s)) last) (volume-there (f 0) n) (greatest-tells (λ s. volume_of (f s)) last);
}
