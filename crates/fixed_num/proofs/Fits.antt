-- What fits a word by its size.
use Rattle.std.proofs.Common.{◌≤◌, ◌≡◌, ℤ, ◌*ℤ◌, unsigned_abs, w64, FitsSigned, to_z, of_z, arith, rules}
use Rattle.std.specs.Int.{w128}
use Rattle.std.proofs.lemmas.Int.{ints, fits_signed_from_abs, fits_signed_mul, to_z-of_z}

pub fits : (z : ℤ) → unsigned_abs z ≤ 1000000000000000000 → FitsSigned w64 z
fits z h = fits_signed_from_abs w64 z (omega arith)

-- a number that is read as it was written, once or through a wider word
pub wide : (x : ℤ) → FitsSigned w64 x → to_z w128 (of_z w128 (to_z w64 (of_z w64 x))) ≡ x
wide x h = rw (to_z-of_z w64 x h) (to_z-of_z w128 x (search rules))

pub size : (x : ℤ) → FitsSigned w64 x → unsigned_abs x ≤ 9223372036854775808
size x h = grind (arith, ints, h.sfits)

pub wide_fits : (x y : ℤ) → FitsSigned w64 x → FitsSigned w64 y → FitsSigned w128 (x *ℤ y)
wide_fits x y h k = fits_signed_mul w128 x y 9223372036854775808 9223372036854775808 (size x h) (size y k) (omega arith)

-- and their product
pub wide_product : (x y : ℤ) → FitsSigned w64 x → FitsSigned w64 y →
    to_z w128 (of_z w128 (to_z w128 (of_z w128 (to_z w64 (of_z w64 x))) *ℤ to_z w128 (of_z w128 (to_z w64 (of_z w64 y))))) ≡ x *ℤ y
wide_product x y h k = rw (wide x h, wide y k) (to_z-of_z w128 (x *ℤ y) (wide_fits x y h k))
