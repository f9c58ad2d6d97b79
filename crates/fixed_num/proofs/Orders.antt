-- What tests of the order of integers say.
use Rattle.std.proofs.Common.{◌≡◌, true, false, ℤ, ◌≤ℤ◌, ◌<ℤ◌, int_le, int_lt, arith}
use Rattle.std.proofs.lemmas.Int.{ints}

pub less_of : (x y : ℤ) → int_lt x y ≡ true → x <ℤ y
less_of x y h = grind (arith, ints)

pub not_less_of : (x y : ℤ) → int_lt x y ≡ false → y ≤ℤ x
not_less_of x y h = grind (arith, ints)

pub not_less_at : (x y : ℤ) → y ≤ℤ x → int_lt x y ≡ false
not_less_at x y h = grind (arith, ints)

pub at_most_of : (x y : ℤ) → int_le x y ≡ true → x ≤ℤ y
at_most_of x y h = grind (arith, ints)

pub at_most_at : (x y : ℤ) → x ≤ℤ y → int_le x y ≡ true
at_most_at x y h = grind (arith, ints)

pub less_at : (x y : ℤ) → x <ℤ y → int_lt x y ≡ true
less_at x y h = grind (arith, ints)
