-- Parts of a case as they are read.
use Rattle.std.proofs.Common.{◌≡◌, ℕ, zero, suc, ◌<◌, ℤ, pos, List, [], ◌∷◌, length, get_or, w64, FitsSigned, refl, arith, ap, ◌∙◌}
use Rattle.std.proofs.lemmas.Int.{ints, fits_signed_from_abs}
use Rattle.case_model.specs.Limits.{IsWithin}

-- an item that is there, whatever stands for one that isn't
pub at_any : {X : Type 0} (xs : List X) (i : ℕ) (d e : X) → i < length xs → get_or xs i d ≡ get_or xs i e
at_any [] i d e h = absurd (omega arith)
at_any (x ∷ xs) zero d e h = refl
at_any (x ∷ xs) (suc i) d e h = at_any xs i d e (omega arith)

-- an item that was read is that of the list
pub read_as : {X : Type 0} (xs ys : List X) (i : ℕ) (x d : X) → x ≡ get_or xs i x → xs ≡ ys → i < length ys → x ≡ get_or ys i d
read_as xs ys i x d e f h = e ∙ ap (λ (zs : List _). get_or zs i x) f ∙ at_any ys i x d h

pub dt_fits : (z : ℤ) → IsWithin (pos 1) (pos 1000000) z → FitsSigned w64 z
dt_fits z h = fits_signed_from_abs w64 z (omega (arith, ints))

pub tolerance_fits : (z : ℤ) → IsWithin (pos 0) (pos 500) z → FitsSigned w64 z
tolerance_fits z h = fits_signed_from_abs w64 z (omega (arith, ints))
