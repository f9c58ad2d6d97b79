-- What arrives at a node along all its ends, from what arrives along each.
use Rattle.std.proofs.Common.{◌≡◌, ℕ, zero, suc, ◌<◌, Option, Some, None, List, [], ◌∷◌, length, get_or, false, pos, refl, arith}
use Rattle.case_model.specs.declared.cases.Friction.{Friction}
use Rattle.case_model.specs.declared.meshes.Arrival.{Arrival}
use Rattle.case_model.specs.declared.meshes.End.{End}
use Rattle.case_model.specs.declared.meshes.Mesh.{Mesh}
use Rattle.case_model.specs.declared.points.Point.{Point}
use Rattle.case_model.specs.declared.points.Point.TheVariants.{Good}
use Rattle.scheme.specs.Arrivals.{arrival_from, arrivals_from, joined}

abbrev pub no_end : End
no_end = record { pipe = 0; at_last = false }

abbrev pub no_point : Point
no_point = Good (pos 0) (pos 0) (pos 0) (pos 0)

abbrev pub no_arrival : Arrival
no_arrival = record { c = pos 0; b = pos 0 }

-- along the first ends, what arrives is this
abbrev pub ArrivedTo : Friction → Mesh → List End → List Point → List Arrival → ℕ → Type 0
ArrivedTo friction mesh ends near arrivals i =
    (k : ℕ) → k < i → arrival_from friction mesh (get_or ends k no_end) (get_or near k no_point) ≡ Some (get_or arrivals k no_arrival)

joined-none : (a : Option Arrival) → joined a None ≡ None
joined-none (Some a) = refl
joined-none None = refl

pub arrivals-none : (friction : Friction) (mesh : Mesh) (ends : List End) (near : List Point) (i : ℕ) → i < length ends → length near ≡ length ends → arrival_from friction mesh (get_or ends i no_end) (get_or near i no_point) ≡ None → arrivals_from friction mesh ends near ≡ None
arrivals-none friction mesh [] near i h l e = absurd (omega arith)
arrivals-none friction mesh (x ∷ ends) [] i h l e = refl
arrivals-none friction mesh (x ∷ ends) (y ∷ near) zero h l e = rw e refl
arrivals-none friction mesh (x ∷ ends) (y ∷ near) (suc i) h l e =
    rw (arrivals-none friction mesh ends near i (omega arith) (omega arith) e) (joined-none (arrival_from friction mesh x y))

pub arrivals-all : (friction : Friction) (mesh : Mesh) (ends : List End) (near : List Point) (arrivals : List Arrival) → length near ≡ length ends → length arrivals ≡ length ends → ArrivedTo friction mesh ends near arrivals (length ends) → arrivals_from friction mesh ends near ≡ Some arrivals
arrivals-all friction mesh [] near [] l m h = refl
arrivals-all friction mesh [] near (a ∷ arrivals) l m h = absurd (omega arith)
arrivals-all friction mesh (x ∷ ends) [] arrivals l m h = absurd (omega arith)
arrivals-all friction mesh (x ∷ ends) (y ∷ near) [] l m h = absurd (omega arith)
arrivals-all friction mesh (x ∷ ends) (y ∷ near) (a ∷ arrivals) l m h =
    rw (h 0 (omega arith), arrivals-all friction mesh ends near arrivals (omega arith) (omega arith) (λ k below. h (suc k) (omega arith))) refl
