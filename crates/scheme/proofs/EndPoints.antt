-- The points of a node's ends, one by one.
use Rattle.std.proofs.Common.{◌≡◌, ℕ, suc, ◌<◌, List, [], ◌∷◌, length, map, get_or, ℤ, pos, refl, arith}
use Rattle.case_model.specs.declared.meshes.End.{End}
use Rattle.case_model.specs.declared.points.Point.{Point}
use Rattle.case_model.specs.declared.states.NodeState.{NodeState}
use Rattle.scheme.specs.Ends.{end_point, end_points}
use Rattle.scheme.proofs.Gathered.{no_end, no_point}

-- the first points are those of the first ends
abbrev pub PointedTo : NodeState → List End → List ℤ → List Point → ℕ → Type 0
PointedTo state ends flows points i =
    (k : ℕ) → k < i → get_or points k no_point ≡ end_point state (get_or ends k no_end) (get_or flows k (pos 0))

pub points-all : (state : NodeState) (ends : List End) (flows : List ℤ) (points : List Point) → length flows ≡ length ends → length points ≡ length ends → PointedTo state ends flows points (length ends) → points ≡ end_points state ends flows
points-all state [] flows [] l m h = refl
points-all state [] flows (p ∷ points) l m h = absurd (omega arith)
points-all state (e ∷ ends) [] points l m h = absurd (omega arith)
points-all state (e ∷ ends) (q ∷ flows) [] l m h = absurd (omega arith)
points-all state (e ∷ ends) (q ∷ flows) (p ∷ points) l m h =
    rw (h 0 (omega arith), points-all state ends flows points (omega arith) (omega arith) (λ k below. h (suc k) (omega arith))) refl

-- the first points are each that of its end
abbrev pub EachFrom : (End → Point) → List End → List Point → ℕ → Type 0
EachFrom f ends points i = (k : ℕ) → k < i → get_or points k no_point ≡ f (get_or ends k no_end)

pub each-all : (f : End → Point) (ends : List End) (points : List Point) → length points ≡ length ends → EachFrom f ends points (length ends) → points ≡ map f ends
each-all f [] [] m h = refl
each-all f [] (p ∷ points) m h = absurd (omega arith)
each-all f (e ∷ ends) [] m h = absurd (omega arith)
each-all f (e ∷ ends) (p ∷ points) m h = rw (h 0 (omega arith), each-all f ends points (omega arith) (λ k below. h (suc k) (omega arith))) refl
