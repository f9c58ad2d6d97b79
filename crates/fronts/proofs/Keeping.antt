-- The points of a stretch, by where its lists keep them.
use Rattle.std.proofs.Common.{◌≡◌, ◌≢◌, ◌∙◌, ℕ, ◌+◌, ◌<◌, ◌≤◌, ◌⊎◌, inl, inr, refl, sym, ap, subst, List, map, length, get_or, set, Bool, true, false, arith}
use Rattle.std.proofs.lemmas.Bool.{lt-ltb, le-ltb, cases_lt}
use Rattle.std.proofs.lemmas.List.{get_or-map, get_or_past, get_or-set_same, get_or-set_other, length-map, map-set}
use Rattle.case_model.specs.declared.points.Point.{Point}
use Rattle.case_model.specs.declared.points.Point.TheVariants.{Bad}
use Rattle.case_model.specs.Meaning.{Meaning}
use Rattle.case_model.specs.Mesh.{reaches}
use Rattle.case_model.specs.Runs.{calm_at}
use Rattle.fronts.specs.Bands.{IsOnMesh}
use Rattle.fronts.specs.Cavities.{cavity_at, no_cavity, volume_and_flow, with_cavity}
use Rattle.fronts.specs.declared.cavities.Cavity.{Cavity}
use Rattle.fronts.specs.declared.stretches.Stretch.{Stretch}
use Rattle.fronts.specs.Stretches.{AreSameKept, AreSamePlaces, IsPut, IsPutIn, IsSet, count_of, is_even, kept_in, point_in, slot}

-- ---- lists of spots and of cavities in which one is set

pub cavity-set : (cavities : List Cavity) (k : ℕ) (x : Cavity) → k < length cavities → cavity_at (set cavities k x) k ≡ volume_and_flow x
cavity-set cavities k x h =
    ap (λ ps. get_or ps k no_cavity) (map-set volume_and_flow cavities k x)
    ∙ get_or-set_same (map volume_and_flow cavities) k (volume_and_flow x) no_cavity (omega (arith, length-map cavities volume_and_flow, h))

pub cavity-beside : (cavities : List Cavity) (k j : ℕ) (x : Cavity) → j ≢ k → cavity_at (set cavities k x) j ≡ cavity_at cavities j
cavity-beside cavities k j x n =
    ap (λ ps. get_or ps j no_cavity) (map-set volume_and_flow cavities k x) ∙ get_or-set_other (map volume_and_flow cavities) k j (volume_and_flow x) no_cavity n

-- ---- a point of a calm stretch, and of one that isn't

pub in-calm : (s : Stretch) (k : ℕ) → s.calm ≡ true → point_in s k ≡ calm_at s.spots.items k
unfolding point_in
in-calm s k h = rw h refl

pub in-wild : (s : Stretch) (k : ℕ) → s.calm ≡ false → point_in s k ≡ with_cavity (calm_at s.spots.items k) (cavity_at s.cavities.items k)
unfolding point_in
in-wild s k h = rw h refl

pub kept-there : (s : Stretch) (e : Bool) (x : ℕ) → x < count_of s → kept_in s e x ≡ point_in s (slot (count_of s) e x)
unfolding kept_in count_of
kept-there s e x h = rw (lt-ltb x s.count h) refl

pub kept-past : (s : Stretch) (e : Bool) (x : ℕ) → count_of s ≤ x → kept_in s e x ≡ Bad
unfolding kept_in count_of
kept-past s e x h = rw (le-ltb x s.count h) refl

pub kept-calm : (s : Stretch) (e : Bool) (x : ℕ) → s.calm ≡ true → x < count_of s → kept_in s e x ≡ calm_at s.spots.items (slot (count_of s) e x)
kept-calm s e x c h = kept-there s e x h ∙ in-calm s (slot (count_of s) e x) c

-- ---- stretches that keep the same

pub kept-same : (old new : Stretch) → AreSameKept old new → (e : Bool) (x : ℕ) → kept_in new e x ≡ kept_in old e x
kept-same old new s e x =
    let n : count_of new ≡ count_of old = s.same.count_is in
    elim (cases_lt x (count_of old)) [
      | inl h ↦ kept-there new e x (omega arith) ∙ ap (λ c. point_in new (slot c e x)) n ∙ s.points (slot (count_of old) e x) ∙ sym (kept-there old e x h)
      | inr h ↦ kept-past new e x (omega arith) ∙ sym (kept-past old e x h)
    ]

pub places-then : (a b c : Stretch) → AreSamePlaces a b → AreSamePlaces b c → AreSamePlaces a c
places-then a b c p q = record {
  pipe_is = q.pipe_is ∙ p.pipe_is;
  first_is = q.first_is ∙ p.first_is;
  number_is = q.number_is ∙ p.number_is;
  count_is = q.count_is ∙ p.count_is;
}

pub mesh-still : (law : Meaning) (old new : Stretch) → AreSamePlaces old new → IsOnMesh law old → IsOnMesh law new
mesh-still law old new s h =
    let r : reaches law.mesh new.pipe ≡ reaches law.mesh old.pipe = ap (reaches law.mesh) s.pipe_is in
    let f : old.first + count_of old ≤ reaches law.mesh old.pipe + 1 = h.fits in
    let a : new.first ≡ old.first = s.first_is in
    let b : count_of new ≡ count_of old = s.count_is in
    record {
      pipe = subst (λ p. p < length law.mesh.pipes) (sym s.pipe_is) h.pipe;
      fits = omega arith;
      small = subst (λ z. z < 4294967296) (sym r) h.small;
    }

-- ---- a place of the lists that is set

pub set-then : (at : ℕ) (point : Point) (old mid new : Stretch) → AreSameKept old mid → IsSet at point mid new → IsSet at point old new
set-then at point old mid new s p = record {
  same = places-then old mid new s.same p.same;
  here = p.here;
  beside = λ k n. p.beside k n ∙ s.points k;
}

pub set-of : (at : ℕ) (a b : Point) (old new : Stretch) → a ≡ b → IsSet at a old new → IsSet at b old new
set-of at a b old new e p = subst (λ z. IsSet at z old new) e p

slots-apart : (n : ℕ) (e even : Bool) (x place : ℕ) → x < n → place < n → (x ≢ place) ⊎ (e ≢ even) → slot n e x ≢ slot n even place
slots-apart n true true x place h l (inl d) q = d q
slots-apart n true true x place h l (inr d) q = d refl
slots-apart n true false x place h l d q = omega arith
slots-apart n false true x place h l d q = omega arith
slots-apart n false false x place h l (inl d) q = d (omega arith)
slots-apart n false false x place h l (inr d) q = d refl

-- a place where neither is put
still : (even : Bool) (place : ℕ) (point : Point) (old new : Stretch) → place < count_of old → IsSet (slot (count_of old) even place) point old new
    → (e : Bool) (x : ℕ) → (x ≢ place) ⊎ (e ≢ even) → kept_in new e x ≡ kept_in old e x
still even place point old new h p e x d =
    let n : count_of new ≡ count_of old = p.same.count_is in
    elim (cases_lt x (count_of old)) [
      | inl l ↦
          kept-there new e x (omega arith) ∙ ap (λ c. point_in new (slot c e x)) n
          ∙ p.beside (slot (count_of old) e x) (slots-apart (count_of old) e even x place l h d) ∙ sym (kept-there old e x l)
      | inr l ↦ kept-past new e x (omega arith) ∙ sym (kept-past old e x l)
    ]

pub put-set : (even : Bool) (place : ℕ) (point : Point) (old new : Stretch) → place < count_of old → IsSet (slot (count_of old) even place) point old new
    → IsPutIn even place point old new
put-set even place point old new h p =
    let n : count_of new ≡ count_of old = p.same.count_is in
    record {
      same = p.same;
      here = kept-there new even place (omega arith) ∙ ap (λ c. point_in new (slot c even place)) n ∙ p.here;
      beside = λ e x d. still even place point old new h p e x (inl d);
      other = λ e x d. still even place point old new h p e x (inr d);
    }

-- by the parity of a step
pub put-of : (step place : ℕ) (point : Point) (old new : Stretch) → IsPutIn (is_even step) place point old new → IsPut step place point old new
put-of step place point old new p = record {
  same = p.same;
  here = λ t e. ap (λ b. kept_in new b place) e ∙ p.here;
  beside = λ t x n. p.beside (is_even t) x n;
  earlier = λ t x n. p.other (is_even t) x n;
}

-- ---- cavities of which there is none

pub with-none : (point : Point) → with_cavity point no_cavity ≡ point
unfolding with_cavity
with-none point = refl

pub cavity-is : (cavities : List Cavity) (k : ℕ) (d : Cavity) → k < length cavities → cavity_at cavities k ≡ volume_and_flow (get_or cavities k d)
cavity-is cavities k d h = get_or-map volume_and_flow cavities k d no_cavity h

pub cavity-past : (cavities : List Cavity) (k : ℕ) → length cavities ≤ k → cavity_at cavities k ≡ no_cavity
cavity-past cavities k h = get_or_past (map volume_and_flow cavities) k no_cavity (omega (arith, length-map cavities volume_and_flow, h))

pub stirred : (old new : Stretch) → AreSamePlaces old new → old.calm ≡ true → new.calm ≡ false → new.spots.items ≡ old.spots.items
    → ((k : ℕ) → cavity_at new.cavities.items k ≡ no_cavity) → AreSameKept old new
stirred old new s co cn e h = record {
  same = s;
  points = λ k. in-wild new k cn ∙ ap (with_cavity (calm_at new.spots.items k)) (h k) ∙ with-none (calm_at new.spots.items k) ∙ ap (λ xs. calm_at xs k) e ∙ sym (in-calm old k co);
}

pub settled : (old new : Stretch) → AreSamePlaces old new → old.calm ≡ false → new.calm ≡ true → new.spots.items ≡ old.spots.items
    → ((k : ℕ) (p : Point) → with_cavity p (cavity_at old.cavities.items k) ≡ p) → AreSameKept old new
settled old new s co cn e h = record {
  same = s;
  points = λ k. in-calm new k cn ∙ ap (λ xs. calm_at xs k) e ∙ sym (h k (calm_at old.spots.items k)) ∙ sym (in-wild old k co);
}

pub cleared-more : (cavities : List Cavity) (i : ℕ) (x : Cavity) → i < length cavities → volume_and_flow x ≡ no_cavity
    → ((k : ℕ) → k < i → cavity_at cavities k ≡ no_cavity) → (k : ℕ) → k < i + 1 → cavity_at (set cavities i x) k ≡ no_cavity
cleared-more cavities i x l e h k b = elim (cases_lt k i) [
  | inl a ↦ cavity-beside cavities i k x (λ q. absurd (omega arith)) ∙ h k a
  | inr a ↦ let q : k ≡ i = omega arith in ap (cavity_at (set cavities i x)) q ∙ cavity-set cavities i x l ∙ e
]

pub cleared-all : (cavities : List Cavity) (i : ℕ) → length cavities ≤ i → ((k : ℕ) → k < i → cavity_at cavities k ≡ no_cavity) → (k : ℕ) → cavity_at cavities k ≡ no_cavity
cleared-all cavities i l h k = elim (cases_lt k i) [ inl a ↦ h k a | inr a ↦ cavity-past cavities k (omega arith) ]

pub none-more : (cavities : List Cavity) (i : ℕ) (x : Cavity) → i < length cavities → x ≡ get_or cavities i x → ((p : Point) → with_cavity p (volume_and_flow x) ≡ p)
    → ((k : ℕ) → k < i → (p : Point) → with_cavity p (cavity_at cavities k) ≡ p) → (k : ℕ) → k < i + 1 → (p : Point) → with_cavity p (cavity_at cavities k) ≡ p
none-more cavities i x l e n h k b p = elim (cases_lt k i) [
  | inl a ↦ h k a p
  | inr a ↦
      let q : k ≡ i = omega arith in
      ap (λ j. with_cavity p (cavity_at cavities j)) q ∙ ap (with_cavity p) (cavity-is cavities i x l ∙ ap volume_and_flow (sym e)) ∙ n p
]

pub none-all : (cavities : List Cavity) (i : ℕ) → length cavities ≤ i → ((k : ℕ) → k < i → (p : Point) → with_cavity p (cavity_at cavities k) ≡ p)
    → (k : ℕ) (p : Point) → with_cavity p (cavity_at cavities k) ≡ p
none-all cavities i l h k p = elim (cases_lt k i) [ inl a ↦ h k a p | inr a ↦ ap (with_cavity p) (cavity-past cavities k (omega arith)) ∙ with-none p ]

pub kept-still : (s : Stretch) → AreSameKept s s
kept-still s = record { same = record { pipe_is = refl; first_is = refl; number_is = refl; count_is = refl }; points = λ k. refl }
