-- The extreme of what two runs of samples have together.
use Rattle.std.proofs.Common.{◌≡◌, ◌∙◌, ℕ, ◌≤◌, ℤ, refl, sym, ap, subst, Option, Some, None, arith}
use Rattle.std.specs.Prelude.{◌≤ℤ◌, IfSome}
use Rattle.std.proofs.lemmas.Int.{ints}
use Rattle.case_model.specs.Samples.{Sample, head_of, volume_of, IsGreatest, IsSmallest}
use Rattle.envelope.specs.Extremes.{either, AgreeAlong, HasExtreme, IsEnvelopeOf}
use Rattle.envelope.specs.declared.extremes.Extreme.{Extreme}
use Rattle.envelope.proofs.Greatest.{same-greatest, same-smallest}
use Rattle.std.specs.Option.{option_or}

pub head-either : (a b : Option Sample) → option_or (head_of a) (head_of b) ≡ head_of (option_or a b)
head-either (Some x) b = refl
head-either None b = refl

pub volume-either : (a b : Option Sample) → option_or (volume_of a) (volume_of b) ≡ volume_of (option_or a b)
volume-either (Some x) b = refl
volume-either None b = refl

pub head-agree : (a b : Option Sample) → ((x y : Sample) → a ≡ Some x → b ≡ Some y → x ≡ y) → (x y : ℤ) → head_of a ≡ Some x → head_of b ≡ Some y → x ≡ y
head-agree None b h x y p q = cc
head-agree (Some a) None h x y p q = cc
head-agree (Some a) (Some b) h x y p q = let e = h a b refl refl in cc

volume-agree : (a b : Option Sample) → ((x y : Sample) → a ≡ Some x → b ≡ Some y → x ≡ y) → (x y : ℤ) → volume_of a ≡ Some x → volume_of b ≡ Some y → x ≡ y
volume-agree None b h x y p q = cc
volume-agree (Some a) None h x y p q = cc
volume-agree (Some a) (Some b) h x y p q = let e = h a b refl refl in cc

-- an envelope's least head is at most its greatest
reaches-bound : (o : Option ℤ) (x y : ℤ) → o ≡ Some x → IfSome o (λ v. v ≤ℤ y) → x ≤ℤ y
reaches-bound None x y e h = cc
reaches-bound (Some v) x y e h = let q : v ≡ x = cc in subst (λ z. z ≤ℤ y) q h

in-order : (f : ℕ → Option Sample) (last : ℕ) (e : Extreme) → IsEnvelopeOf f last e → e.min ≤ℤ e.max
in-order f last e p = reaches-bound (head_of (f e.min_step)) e.min e.max p.least_head.stands (p.greatest_head.bound e.min_step p.least_head.within)

pub met : (f : ℕ → Option Sample) (last : ℕ) (e : Extreme) → IsEnvelopeOf f last e → HasExtreme f last e
met f last e p = record {
  unmet = λ h. let o = in-order f last e p in absurd (omega (arith, ints));
  filled = λ h. p;
}

pub same-extreme : (f g : ℕ → Option Sample) (last : ℕ) (e : Extreme) → ((s : ℕ) → s ≤ last → f s ≡ g s) → HasExtreme f last e → HasExtreme g last e
same-extreme f g last e h p = record {
  unmet = λ l s w. sym (h s w) ∙ p.unmet l s w;
  filled = λ l. let q = p.filled l in record {
    greatest_head = same-greatest (λ s. head_of (f s)) (λ s. head_of (g s)) last e.max e.max_step (λ s w. ap head_of (h s w)) q.greatest_head;
    least_head = same-smallest (λ s. head_of (f s)) (λ s. head_of (g s)) last e.min e.min_step (λ s w. ap head_of (h s w)) q.least_head;
    greatest_volume = same-greatest (λ s. volume_of (f s)) (λ s. volume_of (g s)) last e.volume e.volume_step (λ s w. ap volume_of (h s w)) q.greatest_volume;
  };
}

-- how the greatest, and the least, of two are taken
abbrev pub TakesGreatest : ℕ → ℤ → ℕ → ℤ → ℕ → ℤ → ℕ → Type 0
TakesGreatest last x s y t z u = (f g : ℕ → Option ℤ) → AgreeAlong f g → IsGreatest f last x s → IsGreatest g last y t → IsGreatest (either f g) last z u

abbrev pub TakesSmallest : ℕ → ℤ → ℕ → ℤ → ℕ → ℤ → ℕ → Type 0
TakesSmallest last x s y t z u = (f g : ℕ → Option ℤ) → AgreeAlong f g → IsSmallest f last x s → IsSmallest g last y t → IsSmallest (either f g) last z u

pub joined-envelopes : (f g : ℕ → Option Sample) (last : ℕ) (a b e : Extreme) → AgreeAlong f g → IsEnvelopeOf f last a → IsEnvelopeOf g last b
    → TakesGreatest last a.max a.max_step b.max b.max_step e.max e.max_step
    → TakesSmallest last a.min a.min_step b.min b.min_step e.min e.min_step
    → TakesGreatest last a.volume a.volume_step b.volume b.volume_step e.volume e.volume_step
    → HasExtreme (either f g) last e
joined-envelopes f g last a b e h p q max min volume = met (either f g) last e (record {
  greatest_head = same-greatest (either (λ s. head_of (f s)) (λ s. head_of (g s))) (λ s. head_of (either f g s)) last e.max e.max_step (λ s w. head-either (f s) (g s))
      (max (λ s. head_of (f s)) (λ s. head_of (g s)) (λ s. head-agree (f s) (g s) (h s)) p.greatest_head q.greatest_head);
  least_head = same-smallest (either (λ s. head_of (f s)) (λ s. head_of (g s))) (λ s. head_of (either f g s)) last e.min e.min_step (λ s w. head-either (f s) (g s))
      (min (λ s. head_of (f s)) (λ s. head_of (g s)) (λ s. head-agree (f s) (g s) (h s)) p.least_head q.least_head);
  greatest_volume = same-greatest (either (λ s. volume_of (f s)) (λ s. volume_of (g s))) (λ s. volume_of (either f g s)) last e.volume e.volume_step (λ s w. volume-either (f s) (g s))
      (volume (λ s. volume_of (f s)) (λ s. volume_of (g s)) (λ s. volume-agree (f s) (g s) (h s)) p.greatest_volume q.greatest_volume);
})

pub greatest-retaken : (last : ℕ) (x x' : ℤ) (s s' : ℕ) (y y' : ℤ) (t t' : ℕ) (z z' : ℤ) (u : ℕ) → x' ≡ x → s' ≡ s → y' ≡ y → t' ≡ t → z ≡ z'
    → TakesGreatest last x' s' y' t' z' u → TakesGreatest last x s y t z u
greatest-retaken last x x' s s' y y' t t' z z' u a b c d e h f g k p q =
    subst (λ v. IsGreatest (either f g) last v u) (sym e) (h f g k
    (subst (λ v. IsGreatest f last x' v) (sym b) (subst (λ v. IsGreatest f last v s) (sym a) p))
    (subst (λ v. IsGreatest g last y' v) (sym d) (subst (λ v. IsGreatest g last v t) (sym c) q)))

pub smallest-retaken : (last : ℕ) (x x' : ℤ) (s s' : ℕ) (y y' : ℤ) (t t' : ℕ) (z z' : ℤ) (u : ℕ) → x' ≡ x → s' ≡ s → y' ≡ y → t' ≡ t → z ≡ z'
    → TakesSmallest last x' s' y' t' z' u → TakesSmallest last x s y t z u
smallest-retaken last x x' s s' y y' t t' z z' u a b c d e h f g k p q =
    subst (λ v. IsSmallest (either f g) last v u) (sym e) (h f g k
    (subst (λ v. IsSmallest f last x' v) (sym b) (subst (λ v. IsSmallest f last v s) (sym a) p))
    (subst (λ v. IsSmallest g last y' v) (sym d) (subst (λ v. IsSmallest g last v t) (sym c) q)))

-- the same where the first of the two is taken
pub over-retaken : (last : ℕ) (x x' : ℤ) (s s' : ℕ) (y y' : ℤ) (t t' : ℕ) → x' ≡ x → s' ≡ s → y' ≡ y → t' ≡ t → TakesGreatest last x' s' y' t' x' s' → TakesGreatest last x s y t x s
over-retaken last x x' s s' y y' t t' a b c d h =
    subst (λ v. TakesGreatest last v s y t v s) a (subst (λ v. TakesGreatest last x' v y t x' v) b (subst (λ v. TakesGreatest last x' s' v t x' s') c (subst (λ v. TakesGreatest last x' s' y' v x' s') d h)))

pub under-retaken : (last : ℕ) (x x' : ℤ) (s s' : ℕ) (y y' : ℤ) (t t' : ℕ) → x' ≡ x → s' ≡ s → y' ≡ y → t' ≡ t → TakesSmallest last x' s' y' t' x' s' → TakesSmallest last x s y t x s
under-retaken last x x' s s' y y' t t' a b c d h =
    subst (λ v. TakesSmallest last v s y t v s) a (subst (λ v. TakesSmallest last x' v y t x' v) b (subst (λ v. TakesSmallest last x' s' v t x' s') c (subst (λ v. TakesSmallest last x' s' y' v x' s') d h)))

pub in-between : (max min omax omin hi lo ohi olo : ℤ) → hi ≡ max → lo ≡ min → ohi ≡ omax → olo ≡ omin → ohi ≤ℤ hi → lo ≤ℤ olo → omin ≤ℤ omax → min ≤ℤ max
in-between max min omax omin hi lo ohi olo a b c d over under o = omega (arith, ints)
