-- The index of a name among names of which no two are equal.
use Rattle.std.proofs.Common.{ℕ, zero, suc, ◌+◌, ◌<◌, ◌≡◌, Bool, true, false, cond, Option, Some, List, [], ◌∷◌, ◌++◌, map, length, get_or, sym, ap, ◌∙◌, refl, arith, length-append}
use Rattle.std.proofs.lemmas.List.{get_or_append_left, get_or-append-add}
use Rattle.std.proofs.lemmas.Bool.{false_from_ne_true}
use Rattle.std.proofs.lemmas.Slice.Eq.{bytes_eq-Decides}
use Rattle.std.specs.List.{position_from}
use Rattle.std.specs.Str.{bytes_eq}
use Rattle.round_trip.specs.Writable.{AreApart}

pub apart_left : (xs ys : List (List ℕ)) → AreApart (xs ++ ys) → AreApart xs
apart_left xs ys h i j a b e =
    let l = length-append xs ys in
    h i j (omega arith) (omega arith) (get_or_append_left xs ys [] i a ∙ e ∙ sym (get_or_append_left xs ys [] j b))

pub apart_right : (xs ys : List (List ℕ)) → AreApart (xs ++ ys) → AreApart ys
apart_right xs ys h i j a b e =
    let l = length-append xs ys in
    let s : length xs + i ≡ length xs + j = h (length xs + i) (length xs + j) (omega arith) (omega arith) (get_or-append-add xs ys i [] ∙ e ∙ sym (get_or-append-add xs ys j [])) in
    omega arith

-- the first place at which a test passes
first_place : {X : Type 0} (p : X → Bool) (i : ℕ) (xs : List X) (k : ℕ) (d : X) → k < length xs → p (get_or xs k d) ≡ true → ((j : ℕ) → j < k → p (get_or xs j d) ≡ false) → position_from p i xs ≡ Some (i + k)
first_place p i [] k d h t f = absurd (omega arith)
first_place p i (x ∷ xs) zero d h t f = let e : i ≡ i + 0 = omega arith in rw t (ap Some e)
first_place p i (x ∷ xs) (suc k) d h t f =
    let n : p x ≡ false = f 0 (omega arith) in
    let e : i + 1 + k ≡ i + suc k = omega arith in
    rw n (first_place p (i + 1) xs k d (omega arith) t (λ j l. f (suc j) (omega arith)) ∙ ap Some e)

pub same_name : (a b : List ℕ) → a ≡ b → bytes_eq a b ≡ true
same_name a b e = (bytes_eq-Decides a b).1 e

pub other_name : (a b : List ℕ) → (a ≡ b → ⊥) → bytes_eq a b ≡ false
other_name a b f = false_from_ne_true (bytes_eq a b) (λ t. f ((bytes_eq-Decides a b).0 t))

-- the index of a name is its own
name_found : (names : List (List ℕ)) (k : ℕ) → AreApart names → k < length names → position_from (λ m. bytes_eq m (get_or names k [])) 0 names ≡ Some k
name_found names k h l =
    let z : 0 + k ≡ k = omega arith in
    first_place (λ m. bytes_eq m (get_or names k [])) 0 names k [] l (same_name (get_or names k []) (get_or names k []) refl)
    (λ j b. other_name (get_or names j []) (get_or names k []) (λ e. let s : j ≡ k = h j k (omega arith) l e in omega arith)) ∙ ap Some z

-- the place by a name is that among the names
by_names : {X : Type 0} (name_of : X → List ℕ) (name : List ℕ) (i : ℕ) (xs : List X) → position_from (λ x. bytes_eq (name_of x) name) i xs ≡ position_from (λ m. bytes_eq m name) i (map name_of xs)
by_names name_of name i [] = refl
by_names name_of name i (x ∷ xs) = ap (λ (o : Option ℕ). cond (bytes_eq (name_of x) name) (Some i) o) (by_names name_of name (i + 1) xs)

pub index_back : {X : Type 0} (name_of : X → List ℕ) (xs : List X) (names : List (List ℕ)) (name : List ℕ) (k : ℕ) → map name_of xs ≡ names → AreApart names → k < length names → get_or names k [] ≡ name
    → position_from (λ x. bytes_eq (name_of x) name) 0 xs ≡ Some k
index_back name_of xs names name k e h l n =
    by_names name_of name 0 xs ∙ ap (λ (ms : List (List ℕ)). position_from (λ m. bytes_eq m name) 0 ms) e
    ∙ ap (λ (x : List ℕ). position_from (λ m. bytes_eq m x) 0 names) (sym n) ∙ name_found names k h l
