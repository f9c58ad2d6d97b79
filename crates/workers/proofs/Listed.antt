-- Lists from whose end an item is taken.
use Rattle.std.specs.Prelude.{◌≡◌, ℕ, ◌+◌, ◌<◌, List, [], ◌∷◌, ◌++◌, length}
use Rattle.std.specs.Prelude.{slice_index_or}
use Rattle.std.proofs.Common.{◌∙◌, ap, subst, arith, get_or, length-append}
use Rattle.std.proofs.lemmas.List.{get_or_append_left, get_or_push}

pub length-less : {X : Type 0} (xs ys : List X) (x : X) → xs ≡ ys ++ x ∷ []
    → length xs ≡ length ys + 1
length-less {X} xs ys x is = ap (length {A = X}) is ∙ length-append ys (x ∷ []) ∙ omega arith

-- what holds of each item holds of each but the last
pub each-before : {X : Type 0} (P : ℕ → X → Type 0) (xs ys : List X) (x : X) → xs ≡ ys ++ x ∷ []
    → ((i : ℕ) (d : X) → i < length ys + 1 → P i (slice_index_or xs i d))
    → (i : ℕ) (d : X) → i < length ys → P i (slice_index_or ys i d)
each-before {X} P xs ys x is all i d below =
    subst (P i)
    (ap (λ (l : List X). get_or l i d) is ∙ get_or_append_left ys (x ∷ []) d i below)
    (all i d (omega (arith, below)))

-- and of the last
pub last-too : {X : Type 0} (P : ℕ → X → Type 0) (xs ys : List X) (x : X) → xs ≡ ys ++ x ∷ []
    → ((i : ℕ) (d : X) → i < length ys + 1 → P i (slice_index_or xs i d)) → P (length ys) x
last-too {X} P xs ys x is all =
    subst (P (length ys))
    (ap (λ (l : List X). get_or l (length ys) x) is ∙ get_or_push ys x x (length ys) (omega arith))
    (all (length ys) x (omega arith))
