-- Lists read by place, seats by number, and the list of items that were found finished.
use Rattle.std.proofs.Common.{◌≡◌, ◌≢◌, ℕ, zero, suc, ◌<◌, ◌⊎◌, Bool, true, cond, List, [], ◌∷◌, ◌++◌, length, set, sym, refl, ap, ◌∙◌, subst, inl, inr, ⊎_elim, arith, eq-eqb, ne_eqb, length-set}
use mathlib.Core.Logic.{dite}
use mathlib.Core.Option.{some, some-injective, some-ne-none}
use native.Mathlib.Decide.{ℕ_discrete}
use lib.ListN.{get_elem?}
use Rattle.atomic_table.proofs.Lists.{at_set}
use Rattle.claimboard.specs.Views.{has, Has, with_found}

module _ {A : Type 0} where
  pub within : (l : List A) (i : ℕ) (a : A) → get_elem? l i ≡ some a → i < length l
  within [] i a e = absurd (some-ne-none a (sym e))
  within (x ∷ xs) zero a e = omega arith
  within (x ∷ xs) (suc i) a e = let h = within xs i a e in omega arith

  -- one place has one value
  pub at_one : (l : List A) (i j : ℕ) (a b : A) → i ≡ j → get_elem? l i ≡ some a → get_elem? l j ≡ some b → a ≡ b
  at_one l i j a b same e f = some-injective a b (sym e ∙ ap (get_elem? l) same ∙ f)

  -- the value of a place of a list with one more, and where it stands
  pub at_new : (l : List A) (a b : A) (j : ℕ) → get_elem? (l ++ a ∷ []) j ≡ some b → (get_elem? l j ≡ some b) ⊎ ((j ≡ length l) × (a ≡ b))
  at_new [] a b zero e = inr (refl, some-injective a b e)
  at_new [] a b (suc j) e = absurd (some-ne-none b (sym e))
  at_new (x ∷ xs) a b zero e = inl e
  at_new (x ∷ xs) a b (suc j) e = ⊎_elim inl (λ t. inr (ap suc t.0, t.1)) (at_new xs a b j e)

  -- a fact of the seat `me` and of each other seat
  pub seats_stay : (K : ℕ → A → Type 0) (vs : List A) (me : ℕ) (w : A) → K me w → ((j : ℕ) (d : A) → j ≢ me → get_elem? vs j ≡ some d → K j d)
      → (j : ℕ) (d : A) → get_elem? (set vs me w) j ≡ some d → K j d
  seats_stay K vs me w mine others j d e = ⊎_elim (λ (t : (j ≡ me) × (w ≡ d)). subst (λ (x : ℕ × A). K x.0 x.1) (λ i. (sym t.0 i, t.1 i)) mine)
      (λ (t : (j ≢ me) × (get_elem? vs j ≡ some d)). others j d t.0 t.1) (at_set vs me j w d e)

  pub seats_split : (K : ℕ → A → Type 0) (vs : List A) (me : ℕ) (left right : A) → K me left → K (length vs) right → ((j : ℕ) (d : A) → j ≢ me → get_elem? vs j ≡ some d → K j d)
      → (j : ℕ) (d : A) → get_elem? (set vs me left ++ right ∷ []) j ≡ some d → K j d
  seats_split K vs me left right mine new others j d e = ⊎_elim (seats_stay K vs me left mine others j d)
      (λ (t : (j ≡ length (set vs me left)) × (right ≡ d)). subst (λ (x : ℕ × A). K x.0 x.1) (λ i. (sym (t.0 ∙ length-set vs me left) i, t.1 i)) new) (at_new (set vs me left) right d j e)

abbrev pick : {P : Type 0} → Dec P → ℕ → ℕ → ℕ
pick (yes _) a b = a
pick (no _) a b = b

-- the function f with the value c at i
pub put : (ℕ → ℕ) → ℕ → ℕ → ℕ → ℕ
put f i c j = pick (ℕ_discrete j i) c (f j)

pub put_here : (f : ℕ → ℕ) (i c : ℕ) → put f i c i ≡ c
unfolding put
put_here f i c = go (ℕ_discrete i i)
  where
    go : (d : Dec (i ≡ i)) → pick d c (f i) ≡ c
    go (yes _) = refl
    go (no n) = absurd (n refl)

pub put_else : (f : ℕ → ℕ) (i c j : ℕ) → j ≢ i → put f i c j ≡ f j
unfolding put
put_else f i c j other = go (ℕ_discrete j i)
  where
    go : (d : Dec (j ≡ i)) → pick d c (f j) ≡ f j
    go (yes e) = absurd (other e)
    go (no _) = refl

-- an item that a longer list of found items has
pub found_more : (xs : List ℕ) (i n k : ℕ) → Has k (with_found xs i n) → ((k ≡ i) × (n ≡ 1)) ⊎ Has k xs
found_more xs i n k = dite (ℕ_discrete n 1)
    (λ e. subst (λ (b : Bool). Has k (cond b (i ∷ xs) xs) → ((k ≡ i) × (n ≡ 1)) ⊎ Has k xs) (sym (eq-eqb n 1 e)) (first (ℕ_discrete i k) e))
    (λ ne. subst (λ (b : Bool). Has k (cond b (i ∷ xs) xs) → ((k ≡ i) × (n ≡ 1)) ⊎ Has k xs) (sym (ne_eqb n 1 ne)) (λ h. inr h))
  where
    first : Dec (i ≡ k) → n ≡ 1 → Has k (i ∷ xs) → ((k ≡ i) × (n ≡ 1)) ⊎ Has k xs
    first (yes same) e h = inl (sym same, e)
    first (no other) e h = inr (subst (λ (b : Bool). cond b true (has k xs) ≡ true) (ne_eqb i k other) h)

-- what was found stays found
pub found_stays : (xs : List ℕ) (i n k : ℕ) → Has k xs → Has k (with_found xs i n)
found_stays xs i n k h = dite (ℕ_discrete n 1)
    (λ e. subst (λ (b : Bool). Has k (cond b (i ∷ xs) xs)) (sym (eq-eqb n 1 e)) (dite (ℕ_discrete i k)
    (λ same. subst (λ (b : Bool). cond b true (has k xs) ≡ true) (sym (eq-eqb i k same)) refl)
    (λ other. subst (λ (b : Bool). cond b true (has k xs) ≡ true) (sym (ne_eqb i k other)) h)))
    (λ ne. subst (λ (b : Bool). Has k (cond b (i ∷ xs) xs)) (sym (ne_eqb n 1 ne)) h)

-- what was found finished now is in the list
pub found_now : (xs : List ℕ) (i n : ℕ) → n ≡ 1 → Has i (with_found xs i n)
found_now xs i n e = subst (λ (b : Bool). Has i (cond b (i ∷ xs) xs)) (sym (eq-eqb n 1 e)) (subst (λ (b : Bool). cond b true (has i xs) ≡ true) (sym (eq-eqb i i refl)) refl)
