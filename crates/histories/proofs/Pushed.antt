-- Lists to which one item more is put.
use Rattle.std.proofs.Common.{◌≡◌, ℕ, ◌+◌, ◌<◌, inl, inr, ◌∙◌, ap, sym, subst, arith, List, [], ◌∷◌, ◌++◌, length, get_or}
use Rattle.std.proofs.lemmas.Bool.{cases_lt}
use Rattle.std.proofs.lemmas.List.{get_or_append_left, get_or_push, length-append}

pub length-more : {X : Type 0} (n : ℕ) (xs ys : List X) (x : X) → length xs ≡ n → ys ≡ xs ++ x ∷ []
    → length ys ≡ n + 1
length-more {X} n xs ys x count is =
    ap (length {A = X}) is ∙ length-append xs (x ∷ []) ∙ omega arith

-- the items before the last are as they were
item-before : {X : Type 0} (n i : ℕ) (xs ys : List X) (x d : X) → length xs ≡ n
    → ys ≡ xs ++ x ∷ [] → i < n → get_or ys i d ≡ get_or xs i d
item-before {X} n i xs ys x d count is below =
    ap (λ (l : List X). get_or l i d) is ∙ get_or_append_left xs (x ∷ []) d i (omega arith)

item-last : {X : Type 0} (n i : ℕ) (xs ys : List X) (x d : X) → length xs ≡ n
    → ys ≡ xs ++ x ∷ [] → i ≡ n → get_or ys i d ≡ x
item-last {X} n i xs ys x d count is at =
    ap (λ (l : List X). get_or l i d) is ∙ get_or_push xs x d i (omega arith)

-- what holds of each of n items and of one more holds of all n + 1
pub each-more : {X : Type 0} (P : ℕ → X → Type 0) (n : ℕ) (xs ys : List X) (x : X)
    → length xs ≡ n → ys ≡ xs ++ x ∷ [] → P n x
    → ((i : ℕ) (d : X) → i < n → P i (get_or xs i d))
    → (i : ℕ) (d : X) → i < n + 1 → P i (get_or ys i d)
each-more {X} P n xs ys x count is new old i d below = elim (cases_lt i n) [
  | inl l ↦ subst (P i) (sym (item-before n i xs ys x d count is l)) (old i d l)
  | inr l ↦
      let at : i ≡ n = omega arith in
      subst (P i) (sym (item-last n i xs ys x d count is at))
      (subst (λ (k : ℕ). P k x) (sym at) new)
]

-- the same of two lists together
pub both-more : {X Y : Type 0} (P : ℕ → X → Y → Type 0) (n : ℕ) (xs xs' : List X) (x : X)
    (ys ys' : List Y) (y : Y) → length xs ≡ n → xs' ≡ xs ++ x ∷ [] → length ys ≡ n
    → ys' ≡ ys ++ y ∷ [] → P n x y
    → ((i : ℕ) (d : X) (e : Y) → i < n → P i (get_or xs i d) (get_or ys i e))
    → (i : ℕ) (d : X) (e : Y) → i < n + 1 → P i (get_or xs' i d) (get_or ys' i e)
both-more {X} {Y} P n xs xs' x ys ys' y cx isx cy isy new old i d e below = elim (cases_lt i n) [
  | inl l ↦
      subst (λ (v : Y). P i (get_or xs' i d) v) (sym (item-before n i ys ys' y e cy isy l))
      (subst (λ (v : X). P i v (get_or ys i e)) (sym (item-before n i xs xs' x d cx isx l))
      (old i d e l))
  | inr l ↦
      let at : i ≡ n = omega arith in
      subst (λ (v : Y). P i (get_or xs' i d) v) (sym (item-last n i ys ys' y e cy isy at))
      (subst (λ (v : X). P i v y) (sym (item-last n i xs xs' x d cx isx at))
      (subst (λ (k : ℕ). P k x y) (sym at) new))
]
