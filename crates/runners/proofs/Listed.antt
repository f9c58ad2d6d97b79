-- Lists of which one item is changed.
use Rattle.std.specs.Prelude.{◌≡◌, ◌≢◌, ℕ, ◌+◌, ◌<◌, ◌⊎◌, List, [], ◌∷◌, length}
use Rattle.std.specs.Prelude.{slice_index_or, slice_set}
use Rattle.std.proofs.Common.{sym, subst, arith, inl, inr, get_or-set_other, get_or-set_same}

-- some item of a list that has one
pub item-of : {X : Type 0} (xs : List X) (i : ℕ) → i < length xs → X
item-of [] i below = absurd (omega arith)
item-of (x ∷ xs) i below = x

pub same-or-not : (y x : ℕ) → (y ≡ x) ⊎ (y ≢ x)
same-or-not y x = grind arith

-- what holds of each of the first n items holds where one of them is replaced by such a one
pub set-each : {X : Type 0} (P : ℕ → X → Type 0) (n i : ℕ) (xs : List X) (new : X) → i < length xs
    → P i new → ((j : ℕ) (d : X) → j < n → P j (slice_index_or xs j d))
    → (j : ℕ) (d : X) → j < n → P j (slice_index_or (slice_set xs i new) j d)
set-each {X} P n i xs new inside good all j d below = elim (same-or-not j i) [
  | inl e ↦
      subst (λ (k : ℕ). P k (slice_index_or (slice_set xs i new) k d)) (sym e)
      (subst (P i) (sym (get_or-set_same xs i new d inside)) good)
  | inr ne ↦ subst (P j) (sym (get_or-set_other xs i j new d ne)) (all j d below)
]

-- the first i items were good, and now item i is
pub set-next : {X : Type 0} (P : ℕ → X → Type 0) (i : ℕ) (xs : List X) (new : X) → i < length xs
    → P i new → ((j : ℕ) (d : X) → j < i → P j (slice_index_or xs j d))
    → (j : ℕ) (d : X) → j < i + 1 → P j (slice_index_or (slice_set xs i new) j d)
set-next {X} P i xs new inside good all j d below = elim (same-or-not j i) [
  | inl e ↦
      subst (λ (k : ℕ). P k (slice_index_or (slice_set xs i new) k d)) (sym e)
      (subst (P i) (sym (get_or-set_same xs i new d inside)) good)
  | inr ne ↦
      subst (P j) (sym (get_or-set_other xs i j new d ne)) (all j d (next-below j i ne below))
]
  where
    next-below : (j i : ℕ) → j ≢ i → j < i + 1 → j < i
    next-below j i n l = grind (arith, n, l)

-- the items behind it are as they were
pub set-behind : {X : Type 0} (i j : ℕ) (xs : List X) (new d : X) → i < j
    → slice_index_or (slice_set xs i new) j d ≡ slice_index_or xs j d
set-behind i j xs new d behind = get_or-set_other xs i j new d (λ e. absurd (omega arith))
