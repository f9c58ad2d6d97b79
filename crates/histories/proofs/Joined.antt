-- Lists that are put together of parts of one length.
use Rattle.std.proofs.Common.{◌≡◌, ℕ, zero, suc, ◌+◌, ◌-◌, ◌*◌, ◌<◌, ◌≤◌, inl, inr, ◌∙◌, ap, sym, refl}
use Rattle.std.proofs.Common.{subst, arith, List, [], ◌∷◌, ◌++◌, length, take, drop, get_or, map, add-one}
use Rattle.std.proofs.Math.Nat.{mul-le-mul_left, mul-suc, mul-zero}
use Rattle.std.proofs.Math.Seq.{drop-append_seam, drop-cons, take-add}
use Rattle.std.proofs.lemmas.Bool.{cases_lt}
use Rattle.std.proofs.lemmas.Grind.{flat_map-append}
use Rattle.std.proofs.lemmas.List.{append-nil, drop-append-le, length-append, length-drop, take_all}
use Rattle.std.proofs.lemmas.List.{take-append-le}
use Rattle.std.proofs.lemmas.List.Folds.{flat_map-map}
use Rattle.std.proofs.lemmas.List.FromFn.{map-range_with_len_more}
use Rattle.std.specs.List.{flat_map, range_with_len}
use Rattle.regionrun.specs.Handed.{part, quad}

-- the first n parts and one more
flat-more : {X : Type 0} (f : ℕ → List X) (n : ℕ) → flat_map f (range_with_len 0 (n + 1))
    ≡ flat_map f (range_with_len 0 n) ++ f n
flat-more {X} f n =
    let same : ℕ → ℕ = λ k. k in
    sym (flat_map-map f same (range_with_len 0 (n + 1)))
    ∙ ap (flat_map f) (map-range_with_len_more same 0 n n (omega arith))
    ∙ flat_map-append f (map same (range_with_len 0 n)) (n ∷ [])
    ∙ ap (λ (xs : List X). xs ++ (f n ++ [])) (flat_map-map f same (range_with_len 0 n))
    ∙ ap (λ (xs : List X). flat_map f (range_with_len 0 n) ++ xs) (append-nil (f n))

pub joined-length : {X : Type 0} (w n : ℕ) (f : ℕ → List X) → ((i : ℕ) → length (f i) ≡ w)
    → length (flat_map f (range_with_len 0 n)) ≡ w * n
joined-length w zero f each = sym (mul-zero w)
joined-length {X} w (suc n) f each =
    let before : length (flat_map f (range_with_len 0 n)) ≡ w * n = joined-length w n f each in
    let e : flat_map f (range_with_len 0 (suc n)) ≡ flat_map f (range_with_len 0 n) ++ f n =
    ap (λ (k : ℕ). flat_map f (range_with_len 0 k)) (sym (add-one n)) ∙ flat-more f n in
    ap (length {A = X}) e ∙ length-append (flat_map f (range_with_len 0 n)) (f n)
    ∙ omega (arith, before, each n, mul-suc w n)

-- part c of what is put together is what was put there
pub part-joined : {X : Type 0} (w n c : ℕ) (f : ℕ → List X) → ((i : ℕ) → length (f i) ≡ w) → c < n
    → part w c (flat_map f (range_with_len 0 n)) ≡ f c
part-joined w zero c f each below = absurd (omega arith)
part-joined {X} w (suc n) c f each below =
    let front : List X = flat_map f (range_with_len 0 n) in
    let size : length front ≡ w * n = joined-length w n f each in
    let e : flat_map f (range_with_len 0 (suc n)) ≡ front ++ f n =
    ap (λ (k : ℕ). flat_map f (range_with_len 0 k)) (sym (add-one n)) ∙ flat-more f n in
    ap (part w c) e ∙ elim (cases_lt c n) [
      | inl l ↦
          let room : w * (c + 1) ≤ w * n = mul-le-mul_left w (omega arith) in
          let more : w * (c + 1) ≡ w * c + w = ap (λ (k : ℕ). w * k) (add-one c) ∙ mul-suc w c in
          ap (take (w * c + w - w * c)) (drop-append-le (w * c) front (f n) (omega arith))
          ∙ take-append-le (w * c + w - w * c) (drop (w * c) front) (f n)
          (omega (arith, length-drop (w * c) front))
          ∙ part-joined w n c f each l
      | inr l ↦
          let same : c ≡ n = omega arith in
          let at : w * c ≡ length front = ap (λ (k : ℕ). w * k) same ∙ sym size in
          ap (take (w * c + w - w * c)) (ap (λ (k : ℕ). drop k (front ++ f n)) at
          ∙ drop-append_seam front (f n))
          ∙ take_all (w * c + w - w * c) (f n) (omega (arith, each n))
          ∙ ap f (sym same)
    ]

-- the parts are put together to the whole again
joined-front : {X : Type 0} (w n k : ℕ) (xs : List X) (f : ℕ → List X)
    → ((c : ℕ) → c < n → part w c xs ≡ f c) → k ≤ n
    → take (w * k) xs ≡ flat_map f (range_with_len 0 k)
joined-front {X} w n zero xs f parts below =
    ap (λ (m : ℕ). take m xs) (mul-zero w)
joined-front {X} w n (suc k) xs f parts below =
    let size : w * k + w - w * k ≡ w = omega arith in
    ap (λ (m : ℕ). take m xs) (mul-suc w k)
    ∙ take-add (w * k) w xs
    ∙ ap (λ (ys : List X). ys ++ take w (drop (w * k) xs))
    (joined-front w n k xs f parts (omega arith))
    ∙ ap (λ (ys : List X). flat_map f (range_with_len 0 k) ++ ys)
    (ap (λ (m : ℕ). take m (drop (w * k) xs)) (sym size) ∙ parts k (omega arith))
    ∙ sym (flat-more f k)
    ∙ ap (λ (m : ℕ). flat_map f (range_with_len 0 m)) (add-one k)

pub joined : {X : Type 0} (w n : ℕ) (xs : List X) (f : ℕ → List X) → length xs ≡ w * n
    → ((c : ℕ) → c < n → part w c xs ≡ f c) → xs ≡ flat_map f (range_with_len 0 n)
joined w n xs f size parts =
    sym (take_all (w * n) xs (omega arith)) ∙ joined-front w n n xs f parts (omega arith)

-- four words in a row
pub part-quad : (j : ℕ) (words : List ℕ) → 4 * j + 4 ≤ length words
    → part 4 j words ≡ quad words j
part-quad j words room =
    let four : 4 * j + 4 - 4 * j ≡ 4 = omega arith in
    let i : ℕ = 4 * j in
    let word : ℕ → ℕ = λ k. get_or words k 0 in
    let from : ℕ → List ℕ = λ k. drop k words in
    let one : suc i ≡ i + 1 = omega arith in
    let two : suc (i + 1) ≡ i + 2 = omega arith in
    let three : suc (i + 2) ≡ i + 3 = omega arith in
    let rest : List ℕ = drop (suc (i + 3)) words in
    let d3 : drop (suc (i + 2)) words ≡ word (i + 3) ∷ rest =
    ap from three ∙ drop-cons words (i + 3) 0 (omega arith) in
    let d2 : drop (suc (i + 1)) words ≡ word (i + 2) ∷ word (i + 3) ∷ rest =
    ap from two ∙ drop-cons words (i + 2) 0 (omega arith)
    ∙ ap (λ (l : List ℕ). word (i + 2) ∷ l) d3 in
    let d1 : drop (suc i) words ≡ word (i + 1) ∷ word (i + 2) ∷ word (i + 3) ∷ rest =
    ap from one ∙ drop-cons words (i + 1) 0 (omega arith)
    ∙ ap (λ (l : List ℕ). word (i + 1) ∷ l) d2 in
    let d0 : drop i words ≡ word i ∷ word (i + 1) ∷ word (i + 2) ∷ word (i + 3) ∷ rest =
    drop-cons words i 0 (omega arith) ∙ ap (λ (l : List ℕ). word i ∷ l) d1 in
    ap (λ (m : ℕ). take m (drop i words)) four ∙ ap (take 4) d0
