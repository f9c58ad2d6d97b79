-- Places that a stretch takes over from another one.
use Rattle.std.proofs.Common.{◌≡◌, ◌∙◌, ℕ, ◌+◌, ◌<◌, ◌≤◌, ◌⊎◌, inl, inr, refl, sym, ap, subst, List}
use Rattle.std.proofs.Common.{map, length, get_or, take, drop, Bool, true, false, arith}
use Rattle.std.specs.Prelude.{◌≢◌}
use Rattle.std.proofs.lemmas.Bool.{cases_lt}
use Rattle.std.proofs.lemmas.List.{length-drop, length-map, length-take-le}
use borrow.Rule.Slice.PartMut.{put_mid, same_len_mid}
use Rattle.case_model.specs.declared.points.Point.{Point}
use Rattle.case_model.specs.declared.points.Point.TheVariants.{Bad}
use Rattle.case_model.specs.declared.spots.Spot.{Spot}
use Rattle.case_model.specs.Runs.{calm_at, calm_point}
use Rattle.fronts.specs.declared.stretches.Stretch.{Stretch}
use Rattle.fronts.specs.Rows.{AreCopied, IsRowTaken, IsTaken}
use Rattle.fronts.specs.Stretches.{AreSamePlaces, IsPutIn, count_of, is_even, kept_in, slot}
use Rattle.fronts.proofs.Keeping.{kept-calm, kept-past, places-then}
use Rattle.fronts.proofs.Making.{above, below, calm-mid, part-at, within}

-- ---- lists of spots

pub copied-mid : (place from count n m : ℕ) (spots other run : List Spot)
    → place + count ≤ length spots
    → from + count ≤ length other → n ≡ count → m ≡ count → run ≡ take m (drop from other)
    → AreCopied place other from count spots (put_mid place n spots run)
copied-mid place from count n m spots other run h g ne me e =
    let size : length run ≡ n = ap length e
    ∙ length-take-le m (drop from other) (omega (arith, length-drop from other)) ∙ me
    ∙ sym ne in
    let long : length (map calm_point run) ≡ n = length-map run calm_point ∙ size in
    let wide : length (map calm_point spots) ≡ length spots = length-map spots calm_point in
    let at = λ (x : ℕ). ap (λ ps. get_or ps x Bad) (calm-mid place n spots run) in
    record {
      each = same_len_mid place n spots run
          (size ∙ sym (length-take-le n (drop place spots)
          (omega (arith, length-drop place spots))));
      copied = λ x b.
          at (place + x) ∙ within place n (map calm_point spots) (map calm_point run) (place + x)
          Bad (omega arith) (omega arith) (omega arith)
          ∙ ap (calm_at run) (omega arith) ∙ ap (λ r. calm_at r x) e
          ∙ part-at other from m x (omega arith);
      rest = λ x d. elim d [
        | inl u ↦ at x ∙ below place n (map calm_point spots) (map calm_point run) x Bad u
            (omega arith)
        | inr u ↦ at x ∙ above place n (map calm_point spots) (map calm_point run) x Bad
            (omega arith) (omega arith) long
      ];
    }

-- ---- the row of one parity

slot-from : (n : ℕ) (even : Bool) (here place x : ℕ) → here ≡ slot n even 0 + place
    → slot n even (place + x) ≡ here + x
slot-from n true here place x e = omega arith
slot-from n false here place x e = omega arith

slot-rest : (n : ℕ) (even : Bool) (here place count x : ℕ) → here ≡ slot n even 0 + place
    → (x < place) ⊎ (place + count ≤ x)
    → (slot n even x < here) ⊎ (here + count ≤ slot n even x)
slot-rest n true here place count x e (inl a) = inl (omega arith)
slot-rest n true here place count x e (inr a) = inr (omega arith)
slot-rest n false here place count x e (inl a) = inl (omega arith)
slot-rest n false here place count x e (inr a) = inr (omega arith)

slot-other : (n : ℕ) (e even : Bool) (here place count x : ℕ) → here ≡ slot n even 0 + place
    → place + count ≤ n → x < n → e ≢ even
    → (slot n e x < here) ⊎ (here + count ≤ slot n e x)
slot-other n true true here place count x q h b z = absurd (z refl)
slot-other n true false here place count x q h b z = inl (omega arith)
slot-other n false true here place count x q h b z = inr (omega arith)
slot-other n false false here place count x q h b z = absurd (z refl)

-- of calm stretches
pub row-copied : (even : Bool) (place from count here there : ℕ) (old new other : Stretch)
    (spots theirs more : List Spot)
    → old.calm ≡ true → new.calm ≡ true → other.calm ≡ true → AreSamePlaces old new
    → spots ≡ old.spots.items → theirs ≡ other.spots.items → new.spots.items ≡ more
    → here ≡ slot (count_of old) even 0 + place → there ≡ slot (count_of other) even 0 + from
    → place + count ≤ count_of old → from + count ≤ count_of other
    → AreCopied here theirs there count spots more → IsRowTaken even place other from count old new
row-copied even place from count here there old new other spots theirs more co cn ct s se te ne he
    th h g r =
    let n : count_of new ≡ count_of old = s.count_is in
    let was = λ (e : Bool) (x : ℕ) (b : x < count_of old). kept-calm old e x co b
    ∙ ap (λ xs. calm_at xs (slot (count_of old) e x)) (sym se) in
    let is = λ (e : Bool) (x : ℕ) (b : x < count_of old).
    kept-calm new e x cn (subst (λ c. x < c) (sym n) b)
    ∙ ap (λ xs. calm_at xs (slot (count_of new) e x)) ne ∙ ap (λ c. calm_at more (slot c e x)) n in
    let past = λ (e : Bool) (x : ℕ) (b : count_of old ≤ x). kept-past new e x (omega arith)
    ∙ sym (kept-past old e x b) in
    record {
      same = s;
      taken = λ x b.
          is even (place + x) (omega arith)
          ∙ ap (calm_at more) (slot-from (count_of old) even here place x he)
          ∙ r.copied x b ∙ ap (calm_at theirs)
          (sym (slot-from (count_of other) even there from x th))
          ∙ ap (λ xs. calm_at xs (slot (count_of other) even (from + x))) te
          ∙ sym (kept-calm other even (from + x) ct (omega arith));
      rest = λ x d. elim (cases_lt x (count_of old)) [
        | inl b ↦ is even x b ∙ r.rest (slot (count_of old) even x)
            (slot-rest (count_of old) even here place count x he d) ∙ sym (was even x b)
        | inr b ↦ past even x b
      ];
      others = λ e x z. elim (cases_lt x (count_of old)) [
        | inl b ↦ is e x b ∙ r.rest (slot (count_of old) e x)
            (slot-other (count_of old) e even here place count x he h b z) ∙ sym (was e x b)
        | inr b ↦ past e x b
      ];
    }

pub row-none : (even : Bool) (place : ℕ) (other : Stretch) (from : ℕ) (s : Stretch)
    → IsRowTaken even place other from 0 s s
row-none even place other from s = record {
  same = record { pipe_is = refl; first_is = refl; number_is = refl; count_is = refl };
  taken = λ x h. absurd (omega arith);
  rest = λ x d. refl;
  others = λ e x z. refl;
}

pub row-more : (even : Bool) (place : ℕ) (other : Stretch) (from k : ℕ) (old mid new : Stretch)
    (point : Point) → IsRowTaken even place other from k old mid
    → point ≡ kept_in other even (from + k) → IsPutIn even (place + k) point mid new
    → IsRowTaken even place other from (k + 1) old new
row-more even place other from k old mid new point r e p = record {
  same = places-then old mid new r.same p.same;
  taken = λ x h. elim (cases_lt x k) [
    | inl a ↦ p.beside even (place + x) (λ z. absurd (omega arith)) ∙ r.taken x a
    | inr a ↦
        let q : x ≡ k = omega arith in
        ap (λ y. kept_in new even (place + y)) q ∙ p.here ∙ e
        ∙ ap (λ y. kept_in other even (from + y)) (sym q)
  ];
  rest = λ x d. elim d [
    | inl a ↦ p.beside even x (λ z. absurd (omega arith)) ∙ r.rest x (inl a)
    | inr a ↦ p.beside even x (λ z. absurd (omega arith)) ∙ r.rest x (inr (omega arith))
  ];
  others = λ f x z. p.other f x z ∙ r.others f x z;
}

-- ---- both rows

true-apart : true ≢ false
true-apart e = cc

false-apart : false ≢ true
false-apart e = cc

pub rows-taken : (place : ℕ) (other : Stretch) (from count : ℕ) (old mid new : Stretch)
    → IsRowTaken true place other from count old mid
    → IsRowTaken false place other from count mid new → IsTaken place other from count old new
rows-taken place other from count old mid new p q = record {
  same = places-then old mid new p.same q.same;
  taken = λ t x h. taken (is_even t) x h;
  rest = λ t x d. rest (is_even t) x d;
}
  where
    taken : (e : Bool) (x : ℕ) → x < count → kept_in new e (place + x) ≡ kept_in other e (from + x)
    taken true x h = q.others true (place + x) true-apart ∙ p.taken x h
    taken false x h = q.taken x h

    rest : (e : Bool) (x : ℕ) → (x < place) ⊎ (place + count ≤ x)
        → kept_in new e x ≡ kept_in old e x
    rest true x d = q.others true x true-apart ∙ p.rest x d
    rest false x d = q.rest x d ∙ p.others false x false-apart
