-- Texts of which no two are equal, in one list and across two.
use Rattle.std.proofs.Common.{ℕ, zero, suc, ◌<◌, ◌≡◌, List, [], ◌∷◌, ◌++◌, length, get_or, refl, sym, ap, arith}
use Rattle.round_trip.specs.Writable.{AreApart}

-- a text is none of a list
abbrev pub IsNew : List ℕ → List (List ℕ) → Type 0
IsNew x xs = (j : ℕ) → j < length xs → x ≡ get_or xs j [] → ⊥

-- no text of a list is one of another list
abbrev pub AreNew : List (List ℕ) → List (List ℕ) → Type 0
AreNew xs ys = (i : ℕ) → i < length xs → IsNew (get_or xs i []) ys

pub apart_cons : (x : List ℕ) (xs : List (List ℕ)) → IsNew x xs → AreApart xs → (i j : ℕ) → i < length (x ∷ xs) → j < length (x ∷ xs) → get_or (x ∷ xs) i [] ≡ get_or (x ∷ xs) j [] → i ≡ j
apart_cons x xs f g zero zero h k e = refl
apart_cons x xs f g zero (suc j) h k e = absurd (f j (omega arith) e)
apart_cons x xs f g (suc i) zero h k e = absurd (f i (omega arith) (sym e))
apart_cons x xs f g (suc i) (suc j) h k e = ap (λ n. suc n) (g i j (omega arith) (omega arith) e)

apart_head : (x : List ℕ) (xs : List (List ℕ)) → AreApart (x ∷ xs) → IsNew x xs
apart_head x xs a j h e = let z : 0 ≡ suc j = a 0 (suc j) (omega arith) (omega arith) e in omega (arith, z)

apart_tail : (x : List ℕ) (xs : List (List ℕ)) → AreApart (x ∷ xs) → AreApart xs
apart_tail x xs a i j h k e = let s : suc i ≡ suc j = a (suc i) (suc j) (omega arith) (omega arith) e in omega (arith, s)

new_append : (x : List ℕ) (xs ys : List (List ℕ)) → IsNew x xs → IsNew x ys → (j : ℕ) → j < length (xs ++ ys) → x ≡ get_or (xs ++ ys) j [] → ⊥
new_append x [] ys f g j h e = g j h e
new_append x (y ∷ xs) ys f g zero h e = f 0 (omega arith) e
new_append x (y ∷ xs) ys f g (suc j) h e = new_append x xs ys (λ i l. f (suc i) (omega arith)) g j (omega arith) e

-- the texts of two lists
pub apart_append : (xs ys : List (List ℕ)) → AreApart xs → AreApart ys → AreNew xs ys → AreApart (xs ++ ys)
apart_append [] ys a b c = b
apart_append (x ∷ xs) ys a b c =
    apart_cons x (xs ++ ys) (new_append x xs ys (apart_head x xs a) (c 0 (omega arith))) (apart_append xs ys (apart_tail x xs a) b (λ i h. c (suc i) (omega arith)))

new_cons : (x : List ℕ) (xs zs : List (List ℕ)) → IsNew x zs → AreNew xs zs → (i : ℕ) → i < length (x ∷ xs) → IsNew (get_or (x ∷ xs) i []) zs
new_cons x xs zs f g zero h = f
new_cons x xs zs f g (suc i) h = g i (omega arith)

pub new_of_both : (xs ys zs : List (List ℕ)) → AreNew xs zs → AreNew ys zs → AreNew (xs ++ ys) zs
new_of_both [] ys zs f g = g
new_of_both (x ∷ xs) ys zs f g = new_cons x (xs ++ ys) zs (f 0 (omega arith)) (new_of_both xs ys zs (λ i h. f (suc i) (omega arith)) g)
