-- The strands that pass a test, and the others.
use Rattle.std.proofs.Common.{◌≡◌, ℕ, suc, ◌+◌, Bool, true, false, not, cond, List, [], ◌∷◌, length, refl, arith}
use Rattle.std.specs.List.{filter}

one_more : {X : Type 0} (x : X) (others those : List X) (n : ℕ) (t : Bool) → length others + length those ≡ n → length (cond (not t) (x ∷ others) others) + length (cond t (x ∷ those) those) ≡ suc n
one_more x others those n true h = omega (arith, h)
one_more x others those n false h = omega (arith, h)

-- those that pass a test and those that don't are all
pub both-parts : {X : Type 0} (p : X → Bool) (xs : List X) → length (filter (λ x. not (p x)) xs) + length (filter p xs) ≡ length xs
both-parts p [] = refl
both-parts p (x ∷ xs) = one_more x (filter (λ y. not (p y)) xs) (filter p xs) (length xs) (p x) (both-parts p xs)
