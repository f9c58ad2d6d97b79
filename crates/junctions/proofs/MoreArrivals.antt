-- A sum over the arrivals of a node, one arrival more.
use Rattle.std.proofs.Common.{◌≡◌, ℕ, zero, suc, ◌+◌, ◌<◌, List, [], ◌∷◌, length, take, get_or, ℤ, ◌+ℤ◌, add-one, arith}
use Rattle.std.proofs.lemmas.Int.{ints}
use Rattle.case_model.specs.declared.meshes.Arrival.{Arrival}
use Rattle.junctions.specs.Sums.{sum_of}

sum_of-take_suc : (f : Arrival → ℤ) (xs : List Arrival) (i : ℕ) (d : Arrival) → i < length xs → sum_of f (take (suc i) xs) ≡ sum_of f (take i xs) +ℤ f (get_or xs i d)
sum_of-take_suc f [] i d h = absurd (omega arith)
sum_of-take_suc f (x ∷ xs) zero d h = omega (arith, ints)
sum_of-take_suc f (x ∷ xs) (suc i) d h = omega (arith, ints, sum_of-take_suc f xs i d (omega arith))

pub sum_of-more : (f : Arrival → ℤ) (xs : List Arrival) (i : ℕ) (d : Arrival) → i < length xs → sum_of f (take (i + 1) xs) ≡ sum_of f (take i xs) +ℤ f (get_or xs i d)
sum_of-more f xs i d h = rw add-one (sum_of-take_suc f xs i d h)
