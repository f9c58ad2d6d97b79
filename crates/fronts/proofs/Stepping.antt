-- Places of a stretch that are raised by one step.
use Rattle.std.proofs.Common.{◌≡◌, ◌∙◌, ℕ, ◌+◌, ◌-◌, ◌%◌, ◌<◌, ◌≤◌, ◌⊎◌, inl, inr, refl, sym, ap, subst, List, Bool, true, false, arith}
use Rattle.std.specs.Prelude.{not}
use Rattle.std.proofs.lemmas.Bool.{eq-eqb, ne_eqb, cases_lt}
use Rattle.case_model.specs.declared.points.Point.{Point}
use Rattle.case_model.specs.declared.spots.Spot.{Spot}
use Rattle.case_model.specs.Meaning.{Meaning}
use Rattle.case_model.specs.Runs.{calm_at}
use Rattle.fronts.specs.Bands.{AreRaised, IsStepped, later_point}
use Rattle.fronts.specs.declared.stencil.Places.{Places}
use Rattle.fronts.specs.declared.stretches.Stretch.{Stretch}
use Rattle.fronts.specs.Stretches.{AreSameKept, AreSamePlaces, IsPutIn, count_of, is_even, kept, kept_in, slot}
use Rattle.fronts.proofs.Keeping.{kept-calm, kept-past, kept-same, places-then}

pub next-parity : (step : ℕ) → is_even (step + 1) ≡ not (is_even step)
next-parity step = elim (two step) [
  | inl a ↦ rw (eq-eqb (step % 2) 0 a, ne_eqb ((step + 1) % 2) 0 (λ z. omega arith)) refl
  | inr a ↦ rw (ne_eqb (step % 2) 0 (λ z. omega arith), eq-eqb ((step + 1) % 2) 0 (omega arith)) refl
]
  where
    two : (t : ℕ) → (t % 2 ≡ 0) ⊎ (t % 2 ≡ 1)
    two t = grind arith

same-or-not : (a b : Bool) → (a ≡ b) ⊎ (a ≡ not b)
same-or-not true true = inl refl
same-or-not true false = inr refl
same-or-not false true = inr refl
same-or-not false false = inl refl

not-same : (b : Bool) → b ≡ not b → ⊥
not-same true e = cc
not-same false e = cc

later-same : (law : Meaning) (old mid : Stretch) (step x : ℕ) → AreSamePlaces old mid → ((y : ℕ) → kept mid step y ≡ kept old step y) → later_point law mid step x ≡ later_point law old step x
later-same law old mid step x s h =
    ap (λ p. law.inner p (mid.first + x) (kept mid step (x - 1)) (kept mid step x) (kept mid step (x + 1))) s.pipe_is
    ∙ ap (λ f. law.inner old.pipe (f + x) (kept mid step (x - 1)) (kept mid step x) (kept mid step (x + 1))) s.first_is
    ∙ ap (λ a. law.inner old.pipe (old.first + x) a (kept mid step x) (kept mid step (x + 1))) (h (x - 1))
    ∙ ap (λ b. law.inner old.pipe (old.first + x) (kept old step (x - 1)) b (kept mid step (x + 1))) (h x)
    ∙ ap (law.inner old.pipe (old.first + x) (kept old step (x - 1)) (kept old step x)) (h (x + 1))

pub stepped-none : (law : Meaning) (step low : ℕ) (s : Stretch) → IsStepped law step (λ x. x) low low s s
stepped-none law step low s = record {
  same = record { pipe_is = refl; first_is = refl; number_is = refl; count_is = refl };
  inner = λ x b l h. absurd (omega arith);
  inside = λ t x b l h e. absurd (omega arith);
  outside = λ t x b d. refl;
  before = λ t x e. refl;
}

pub stepped-more : (law : Meaning) (step low at high : ℕ) (old mid new : Stretch) → low ≤ at → at ≤ high
    → IsStepped law step (λ x. x) low at old mid → IsStepped law step (λ x. x) at high mid new → IsStepped law step (λ x. x) low high old new
stepped-more law step low at high old mid new l h p q =
    let n : count_of mid ≡ count_of old = p.same.count_is in
    record {
      same = places-then old mid new p.same q.same;
      inner = λ x b u v. elim (cases_lt x at) [
        | inl a ↦ p.inner x b u a
        | inr a ↦ let i = q.inner x (omega arith) a v in let j : x + 1 < count_of mid = i.1 in (i.0, omega arith)
      ];
      inside = λ t x b u v e. elim (cases_lt x at) [
        | inl a ↦ q.outside t x (omega arith) (inl a) ∙ p.inside t x b u a e
        | inr a ↦ q.inside t x (omega arith) a v e ∙ later-same law old mid step x p.same (λ y. p.before step y refl)
      ];
      outside = λ t x b d. elim d [
        | inl a ↦ q.outside t x (omega arith) (inl (omega arith)) ∙ p.outside t x b (inl a)
        | inr a ↦ q.outside t x (omega arith) (inr a) ∙ p.outside t x b (inr (omega arith))
      ];
      before = λ t x e. q.before t x e ∙ p.before t x e;
    }

pub stepped-after : (law : Meaning) (step low high : ℕ) (old mid new : Stretch) → AreSameKept old mid → IsStepped law step (λ x. x) low high mid new → IsStepped law step (λ x. x) low high old new
stepped-after law step low high old mid new s q =
    let n : count_of mid ≡ count_of old = s.same.count_is in
    record {
      same = places-then old mid new s.same q.same;
      inner = λ x b u v. let i = q.inner x (omega arith) u v in let j : x + 1 < count_of mid = i.1 in (i.0, omega arith);
      inside = λ t x b u v e. q.inside t x (omega arith) u v e ∙ later-same law old mid step x s.same (λ y. kept-same old mid s (is_even step) y);
      outside = λ t x b d. q.outside t x (omega arith) d ∙ kept-same old mid s (is_even t) x;
      before = λ t x e. q.before t x e ∙ kept-same old mid s (is_even t) x;
    }

-- one place, by a point that is put
pub stepped-one : (law : Meaning) (step place : ℕ) (point : Point) (old new : Stretch) → 0 < place → place + 1 < count_of old
    → point ≡ later_point law old step place → IsPutIn (not (is_even step)) place point old new → IsStepped law step (λ x. x) place (place + 1) old new
stepped-one law step place point old new l h e p = record {
  same = p.same;
  inner = λ x b u v. let q : x ≡ place = omega arith in (omega arith, omega arith);
  inside = λ t x b u v z.
      let q : x ≡ place = omega arith in
      ap (λ y. kept_in new (is_even t) y) q ∙ ap (λ c. kept_in new c place) (z ∙ next-parity step) ∙ p.here ∙ e ∙ ap (later_point law old step) (sym q);
  outside = λ t x b d. p.beside (is_even t) x (λ q. elim d [ inl a ↦ absurd (omega arith) | inr a ↦ absurd (omega arith) ]);
  before = λ t x z. p.other (is_even t) x (λ q. not-same (is_even step) (sym z ∙ q));
}

-- a run of a calm stretch
pub stepped-calm : (law : Meaning) (step low high done : ℕ) (old new : Stretch) (places : Places) (spots more : List Spot)
    → old.calm ≡ true → new.calm ≡ true → AreSamePlaces old new → spots ≡ old.spots.items → new.spots.items ≡ more
    → places.pipe ≡ old.pipe → places.first ≡ old.first → places.count ≡ count_of old → places.low ≡ low
    → 0 < low → low + done ≤ high → high < count_of old
    → AreRaised law places (is_even step) done spots more → IsStepped law step (λ x. x) low (low + done) old new
stepped-calm law step low high done old new places spots more co cn s se ne pe fe ce le z l h r =
    let n : count_of new ≡ count_of old = s.count_is in
    let even = is_even step in
    let was = λ (e : Bool) (x : ℕ) (b : x < count_of old). kept-calm old e x co b ∙ ap (λ xs. calm_at xs (slot (count_of old) e x)) (sym se) ∙ ap (λ c. calm_at spots (slot c e x)) (sym ce) in
    let is = λ (e : Bool) (x : ℕ) (b : x < count_of old). kept-calm new e x cn (subst (λ c. x < c) (sym n) b) ∙ ap (λ xs. calm_at xs (slot (count_of new) e x)) ne ∙ ap (λ c. calm_at more (slot c e x)) (n ∙ sym ce) in
    record {
      same = s;
      inner = λ x b u v. (omega arith, omega arith);
      inside = λ t x b u v e.
          ap (λ c. kept_in new c x) (e ∙ next-parity step) ∙ is (not even) x b
          ∙ r.inside x (omega arith) (omega arith)
          ∙ ap (λ p. law.inner p (places.first + x) (calm_at spots (slot places.count even (x - 1))) (calm_at spots (slot places.count even x)) (calm_at spots (slot places.count even (x + 1)))) pe
          ∙ ap (λ f. law.inner old.pipe (f + x) (calm_at spots (slot places.count even (x - 1))) (calm_at spots (slot places.count even x)) (calm_at spots (slot places.count even (x + 1)))) fe
          ∙ ap (λ a. law.inner old.pipe (old.first + x) a (calm_at spots (slot places.count even x)) (calm_at spots (slot places.count even (x + 1)))) (sym (was even (x - 1) (omega arith)))
          ∙ ap (λ a. law.inner old.pipe (old.first + x) (kept old step (x - 1)) a (calm_at spots (slot places.count even (x + 1)))) (sym (was even x b))
          ∙ ap (law.inner old.pipe (old.first + x) (kept old step (x - 1)) (kept old step x)) (sym (was even (x + 1) (omega arith)));
      outside = λ t x b d. elim (same-or-not (is_even t) even) [
        | inl e ↦ ap (λ c. kept_in new c x) e ∙ is even x b ∙ r.before x (subst (λ c. x < c) (sym ce) b) ∙ sym (was even x b) ∙ ap (λ c. kept_in old c x) (sym e)
        | inr e ↦
            ap (λ c. kept_in new c x) e ∙ is (not even) x b
            ∙ r.outside x (subst (λ c. x < c) (sym ce) b) (subst (λ c. (x < c) ⊎ (c + done ≤ x)) (sym le) d)
            ∙ sym (was (not even) x b) ∙ ap (λ c. kept_in old c x) (sym e)
      ];
      before = λ t x e. elim (cases_lt x (count_of old)) [
        | inl b ↦ ap (λ c. kept_in new c x) e ∙ is even x b ∙ r.before x (subst (λ c. x < c) (sym ce) b) ∙ sym (was even x b) ∙ ap (λ c. kept_in old c x) (sym e)
        | inr b ↦ kept-past new (is_even t) x (omega arith) ∙ sym (kept-past old (is_even t) x b)
      ];
    }

pub stepped-nothing : (law : Meaning) (step low high : ℕ) (s : Stretch) → high ≡ low → IsStepped law step (λ x. x) low high s s
stepped-nothing law step low high s e = subst (λ h. IsStepped law step (λ x. x) low h s s) (sym e) (stepped-none law step low s)

pub stepped-to : (law : Meaning) (step low a b : ℕ) (old new : Stretch) → a ≡ b → IsStepped law step (λ x. x) low a old new → IsStepped law step (λ x. x) low b old new
stepped-to law step low a b old new e p = subst (λ h. IsStepped law step (λ x. x) low h old new) e p

stepped-empty : (law : Meaning) (step low high : ℕ) (old new : Stretch) → high ≤ low → IsStepped law step (λ x. x) low low old new → IsStepped law step (λ x. x) low high old new
stepped-empty law step low high old new l p = record {
  same = p.same;
  inner = λ x b u v. absurd (omega arith);
  inside = λ t x b u v e. absurd (omega arith);
  outside = λ t x b d. elim (cases_lt x low) [ inl a ↦ p.outside t x b (inl a) | inr a ↦ p.outside t x b (inr a) ];
  before = p.before;
}

pub stepped-end : (law : Meaning) (step low place high : ℕ) (old new : Stretch) → high ≤ place → (place ≤ high) ⊎ (place ≡ low)
    → IsStepped law step (λ x. x) low place old new → IsStepped law step (λ x. x) low high old new
stepped-end law step low place high old new h (inl a) p = stepped-to law step low place high old new (omega arith) p
stepped-end law step low place high old new h (inr a) p = stepped-empty law step low high old new (omega arith) (stepped-to law step low place low old new a p)
