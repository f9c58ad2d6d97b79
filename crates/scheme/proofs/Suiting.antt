-- The ends suit each kind of node of a case that division accepts, and its coefficients are in their limits.
use Rattle.std.proofs.Common.{◌≡◌, ℕ, ◌==◌, true, ℤ, List, [], ◌∷◌, length, set, ap, arith}
use Rattle.case_model.specs.declared.cases.Case.{Case}
use Rattle.case_model.specs.declared.cases.NodeKind.{NodeKind}
use Rattle.case_model.specs.declared.cases.NodeKind.TheVariants.{Reservoir, Junction, Discharge, Inline, Pump, Tank, Vessel}
use Rattle.case_model.specs.declared.meshes.End.{End}
use Rattle.case_model.specs.declared.meshes.Mesh.{Mesh}
use Rattle.case_model.specs.Refusals.{ends_suit}
use Rattle.scheme.specs.Arrivals.{HasCoefficients}
use Rattle.scheme.specs.Computable.{IsComputable, Suits}

one_end : (n : ℕ) → (n == 1) ≡ true → n ≡ 1
one_end n h = grind arith

pub suiting : (most : ℕ) (kind : NodeKind) (ends : List End) → ends_suit most kind ends ≡ true → Suits kind ends
unfolding ends_suit
suiting most (Reservoir head) ends s = tt
suiting most (Junction demand start) ends s = tt
suiting most (Discharge q0 h0 outlet opening start) ends s = one_end (length ends) s
suiting most (Inline q0 h0 opening start start2) ends s = s
suiting most (Pump curve speed start start2) ends s = s
suiting most (Tank area start) ends s = tt
suiting most (Vessel gas volume) ends s = tt

pub coefficients : (case : Case) (mesh : Mesh) → IsComputable case mesh → HasCoefficients mesh
coefficients case mesh fit = record {
  impedances = λ p h. record { low = fit.low p h; high = fit.high p h };
  resistances = λ p h. record { low = fit.some_friction p h; high = fit.most_friction p h };
}

-- the only place of a list that is written
pub only_place : (xs : List ℤ) (x y : ℤ) → length xs ≡ 1 → x ≡ y → set xs 0 x ≡ y ∷ []
only_place [] x y h e = absurd (omega (arith, h))
only_place (z ∷ []) x y h e = ap (λ (n : ℤ). n ∷ []) e
only_place (z ∷ w ∷ xs) x y h e = absurd (omega (arith, h))
