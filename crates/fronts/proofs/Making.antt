-- A run of spots that a law makes, written over those from a place on.
use Rattle.std.proofs.Common.{◌≡◌, ℕ, ◌+◌, ◌-◌, ◌<◌, ◌≤◌, inl, inr, ◌∙◌, ap, sym, subst, List, ◌++◌, length, map, get_or, take, drop, Bool, true, false, arith}
use Rattle.std.proofs.lemmas.List.{drop-map, get_or-append_right, get_or-drop, get_or-take, get_or_append_left, length-append, length-drop, length-map, length-take-le, map-append, take-map}
use borrow.Rule.Slice.PartMut.{post_of, put_mid, same_len_mid}
use Rattle.case_model.specs.declared.points.Point.TheVariants.{Bad}
use Rattle.case_model.specs.declared.spots.Spot.{Spot}
use Rattle.case_model.specs.Meaning.{Meaning}
use Rattle.case_model.specs.Runs.{IsCalmRun, calm_at, calm_point}
use Rattle.fronts.specs.Bands.{AreMade, AreRaised}
use Rattle.fronts.specs.declared.stencil.Places.{Places}
use Rattle.std.proofs.lemmas.Bool.{cases_lt}

-- ---- an item of a list of which a part was written over

pub below : {X : Type 0} (a k : ℕ) (xs ys : List X) (i : ℕ) (d : X) → i < a → a ≤ length xs
    → get_or (put_mid a k xs ys) i d ≡ get_or xs i d
below a k xs ys i d h l =
    get_or_append_left (take a xs) (ys ++ post_of a k xs) d i (omega (arith, length-take-le a xs l))
    ∙ get_or-take a xs i d h

pub within : {X : Type 0} (a k : ℕ) (xs ys : List X) (i : ℕ) (d : X) → a ≤ i → i < a + length ys
    → a ≤ length xs → get_or (put_mid a k xs ys) i d ≡ get_or ys (i - a) d
within a k xs ys i d h b l =
    get_or-append_right (take a xs) (ys ++ post_of a k xs) a i d (length-take-le a xs l) h
    ∙ get_or_append_left ys (post_of a k xs) d (i - a) (omega arith)

pub above : {X : Type 0} (a k : ℕ) (xs ys : List X) (i : ℕ) (d : X) → a + k ≤ i → a ≤ length xs
    → length ys ≡ k → get_or (put_mid a k xs ys) i d ≡ get_or xs i d
above a k xs ys i d h l e =
    get_or-append_right (take a xs) (ys ++ post_of a k xs) a i d (length-take-le a xs l) (omega arith)
    ∙ get_or-append_right ys (post_of a k xs) k (i - a) d e (omega arith)
    ∙ get_or-drop k (drop a xs) (i - a - k) d
    ∙ get_or-drop a xs (k + (i - a - k)) d
    ∙ ap (λ j. get_or xs j d) (omega arith)

pub calm-mid : (a k : ℕ) (xs ys : List Spot) → map calm_point (put_mid a k xs ys) ≡ put_mid a k (map calm_point xs) (map calm_point ys)
calm-mid a k xs ys =
    map-append calm_point (take a xs) (ys ++ post_of a k xs)
    ∙ ap (λ l. l ++ map calm_point (ys ++ post_of a k xs)) (sym (take-map calm_point a xs))
    ∙ ap (λ l. take a (map calm_point xs) ++ l) (map-append calm_point ys (post_of a k xs)
    ∙ ap (λ l. map calm_point ys ++ l) (sym (drop-map calm_point k (drop a xs)) ∙ ap (drop k) (sym (drop-map calm_point a xs))))

-- the points of a part of a list
pub part-at : (spots : List Spot) (from count j : ℕ) → j < count
    → calm_at (take count (drop from spots)) j ≡ calm_at spots (from + j)
part-at spots from count j h =
    ap (λ ps. get_or ps j Bad) (sym (take-map calm_point count (drop from spots)) ∙ ap (take count) (sym (drop-map calm_point from spots)))
    ∙ get_or-take count (drop from (map calm_point spots)) j Bad h ∙ get_or-drop from (map calm_point spots) j Bad

-- ---- a run

pub run-made : (law : Meaning) (places : Places) (a n done : ℕ) (earlier old run : List Spot)
    → 0 < places.low → places.low < places.high → places.high < length earlier → length old ≡ length earlier
    → a ≡ places.high + 1 - (places.low - 1) → n ≡ places.high - places.low → done ≤ n
    → IsCalmRun law places.pipe (places.first + places.low) (take a (drop (places.low - 1) earlier)) done (take n (drop places.low old)) run
    → AreMade law places done earlier old (put_mid places.low n old run)
run-made law places a n done earlier old run s l b k ae ne m r =
    let low = places.low in
    let size : length run ≡ n = r.each ∙ length-take-le n (drop low old) (omega (arith, length-drop low old)) in
    let long : length (map calm_point run) ≡ n = length-map run calm_point ∙ size in
    let wide : length (map calm_point old) ≡ length old = length-map old calm_point in
    let at = λ (x : ℕ). ap (λ ps. get_or ps x Bad) (calm-mid low n old run) in
    let before = take a (drop (low - 1) earlier) in
    record {
      each = same_len_mid low n old run r.each;
      inside = λ x u v.
          let f = places.first in
          at x ∙ within low n (map calm_point old) (map calm_point run) x Bad u (omega arith) (omega arith)
          ∙ r.made (x - low) (omega arith)
          ∙ ap (λ i. law.inner places.pipe i (calm_at before (x - low)) (calm_at before (x - low + 1)) (calm_at before (x - low + 2))) (omega arith)
          ∙ ap (λ p. law.inner places.pipe (f + x) p (calm_at before (x - low + 1)) (calm_at before (x - low + 2)))
          (part-at earlier (low - 1) a (x - low) (omega arith) ∙ ap (calm_at earlier) (omega arith))
          ∙ ap (λ p. law.inner places.pipe (f + x) (calm_at earlier (x - 1)) p (calm_at before (x - low + 2)))
          (part-at earlier (low - 1) a (x - low + 1) (omega arith) ∙ ap (calm_at earlier) (omega arith))
          ∙ ap (law.inner places.pipe (f + x) (calm_at earlier (x - 1)) (calm_at earlier x))
          (part-at earlier (low - 1) a (x - low + 2) (omega arith) ∙ ap (calm_at earlier) (omega arith));
      outside = λ x d. elim d [
        | inl u ↦ at x ∙ below low n (map calm_point old) (map calm_point run) x Bad u (omega arith)
        | inr u ↦ elim (cases_lt x (low + n)) [
          | inl v ↦
              at x ∙ within low n (map calm_point old) (map calm_point run) x Bad (omega arith) (omega arith) (omega arith)
              ∙ r.rest (x - low) (omega arith) ∙ part-at old low n (x - low) (omega arith) ∙ ap (calm_at old) (omega arith)
          | inr v ↦ at x ∙ above low n (map calm_point old) (map calm_point run) x Bad v (omega arith) long
        ]
      ];
    }

-- ---- two rows in one list

front : (a b : List Spot) (x : ℕ) → x < length a → calm_at (a ++ b) x ≡ calm_at a x
front a b x h =
    ap (λ ps. get_or ps x Bad) (map-append calm_point a b)
    ∙ get_or_append_left (map calm_point a) (map calm_point b) Bad x (omega (arith, length-map a calm_point, h))

back : (a b : List Spot) (n x : ℕ) → length a ≡ n → calm_at (a ++ b) (n + x) ≡ calm_at b x
back a b n x e =
    ap (λ ps. get_or ps (n + x) Bad) (map-append calm_point a b)
    ∙ get_or-append_right (map calm_point a) (map calm_point b) n (n + x) Bad (length-map a calm_point ∙ e) (omega arith)
    ∙ ap (calm_at b) (omega arith)

pub raised-odds : (law : Meaning) (places : Places) (even : Bool) (done : ℕ) (spots evens odds new : List Spot)
    → even ≡ true → spots ≡ evens ++ odds → length evens ≡ places.count → 0 < places.low → places.low + done ≤ places.high → places.high < places.count
    → AreMade law places done evens odds new → AreRaised law places even done spots (evens ++ new)
raised-odds law places even done spots evens odds new ev e n l h b m =
    subst (λ z. AreRaised law places z done spots (evens ++ new)) (sym ev)
    (subst (λ z. AreRaised law places true done z (evens ++ new)) (sym e) (record {
      each = length-append evens new ∙ ap (λ z. length evens + z) m.each ∙ sym (length-append evens odds);
      inside = λ x u v.
          back evens new places.count x n ∙ m.inside x u v
          ∙ ap (λ p. law.inner places.pipe (places.first + x) p (calm_at evens x) (calm_at evens (x + 1))) (sym (front evens odds (x - 1) (omega arith)))
          ∙ ap (λ p. law.inner places.pipe (places.first + x) (calm_at (evens ++ odds) (x - 1)) p (calm_at evens (x + 1))) (sym (front evens odds x (omega arith)))
          ∙ ap (law.inner places.pipe (places.first + x) (calm_at (evens ++ odds) (x - 1)) (calm_at (evens ++ odds) x)) (sym (front evens odds (x + 1) (omega arith)));
      outside = λ x c d. back evens new places.count x n ∙ m.outside x d ∙ sym (back evens odds places.count x n);
      before = λ x c. front evens new x (omega arith) ∙ sym (front evens odds x (omega arith));
    }))

pub raised-evens : (law : Meaning) (places : Places) (even : Bool) (done : ℕ) (spots evens odds new : List Spot)
    → even ≡ false → spots ≡ evens ++ odds → length evens ≡ places.count → 0 < places.low → places.low + done ≤ places.high → places.high < places.count
    → AreMade law places done odds evens new → AreRaised law places even done spots (new ++ odds)
raised-evens law places even done spots evens odds new ev e n l h b m =
    let k : length new ≡ places.count = m.each ∙ n in
    subst (λ z. AreRaised law places z done spots (new ++ odds)) (sym ev)
    (subst (λ z. AreRaised law places false done z (new ++ odds)) (sym e) (record {
      each = length-append new odds ∙ ap (λ z. z + length odds) m.each ∙ sym (length-append evens odds);
      inside = λ x u v.
          front new odds x (omega arith) ∙ m.inside x u v
          ∙ ap (λ p. law.inner places.pipe (places.first + x) p (calm_at odds x) (calm_at odds (x + 1))) (sym (back evens odds places.count (x - 1) n))
          ∙ ap (λ p. law.inner places.pipe (places.first + x) (calm_at (evens ++ odds) (places.count + (x - 1))) p (calm_at odds (x + 1))) (sym (back evens odds places.count x n))
          ∙ ap (law.inner places.pipe (places.first + x) (calm_at (evens ++ odds) (places.count + (x - 1))) (calm_at (evens ++ odds) (places.count + x))) (sym (back evens odds places.count (x + 1) n));
      outside = λ x c d. front new odds x (omega arith) ∙ m.outside x d ∙ sym (front evens odds x (omega arith));
      before = λ x c. back new odds places.count x k ∙ sym (back evens odds places.count x n);
    }))
