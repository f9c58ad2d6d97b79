-- Places by their numbers, and numbers by their places.
use Rattle.std.proofs.Common.{◌≡◌, ◌∙◌, ℕ, zero, suc, ◌+◌, ◌-◌, ◌<◌, ◌≤◌, inl, inr, refl, sym, ap, subst, List, [], ◌∷◌, length, take, get_or, arith}
use Rattle.std.specs.Prelude.{sum_by}
use Rattle.std.proofs.lemmas.Bool.{le-leb, lt-leb, lt-ltb, le-ltb}
use Rattle.std.proofs.lemmas.List.{take_all}
use Rattle.std.proofs.lemmas.List.Sums.{sum_by-cons}
use Rattle.case_model.specs.declared.cases.ProbeAt.{ProbeAt}
use Rattle.case_model.specs.declared.cases.ProbeAt.TheVariants.{OnPipe, OnNode}
use Rattle.case_model.specs.declared.meshes.Mesh.{Mesh}
use Rattle.case_model.specs.declared.meshes.PipeMesh.{PipeMesh}
use Rattle.case_model.specs.Mesh.{no_pipe, reaches, base_of, IsNumbered}
use Rattle.case_model.specs.PlaceNumbers.{number_of, IsOn, place_among, place_at}
use Rattle.fixed_num.proofs.Between.{le_or_more}

-- the places of some pipes
abbrev pub all-of : List PipeMesh → ℕ
all-of ps = sum_by (λ (pipe : PipeMesh). pipe.reaches + 1) ps

all-more : (p : PipeMesh) (ps : List PipeMesh) → all-of (p ∷ ps) ≡ (p.reaches + 1) + all-of ps
all-more p ps = sum_by-cons (λ (pipe : PipeMesh). pipe.reaches + 1) p ps

front-more : (j : ℕ) (p : PipeMesh) (ps : List PipeMesh) → all-of (take (suc j) (p ∷ ps)) ≡ (p.reaches + 1) + all-of (take j ps)
front-more j p ps = sum_by-cons (λ (pipe : PipeMesh). pipe.reaches + 1) p (take j ps)

reaches-first : (p : PipeMesh) (ps : List PipeMesh) → (get_or (p ∷ ps) 0 no_pipe).reaches ≡ p.reaches
reaches-first p ps = refl

here-at : (start i : ℕ) (p : PipeMesh) (ps : List PipeMesh) → i ≤ p.reaches → place_among start (p ∷ ps) i ≡ OnPipe start i
here-at start i p ps h = rw (le-leb i p.reaches h) refl

past-at : (start k : ℕ) (p : PipeMesh) (ps : List PipeMesh) → p.reaches < k → place_among start (p ∷ ps) k ≡ place_among (start + 1) ps (k - (p.reaches + 1))
past-at start k p ps h = rw (lt-leb k p.reaches h) refl

pub among-at : (ps : List PipeMesh) (start j i k : ℕ) → j < length ps → i ≤ (get_or ps j no_pipe).reaches → k ≡ all-of (take j ps) + i → place_among start ps k ≡ OnPipe (start + j) i
among-at [] start j i k l h e = absurd (omega arith)
among-at (p ∷ ps) start zero i k l h e =
    let z : k ≡ i = omega arith in
    ap (place_among start (p ∷ ps)) z ∙ here-at start i p ps h ∙ ap (λ n. OnPipe n i) (omega arith)
among-at (p ∷ ps) start (suc j) i k l h e =
    let m = front-more j p ps in
    past-at start k p ps (omega arith)
    ∙ among-at ps (start + 1) j i (k - (p.reaches + 1)) (omega arith) h (omega arith)
    ∙ ap (λ n. OnPipe n i) (omega arith)

-- a number among the places of some pipes is that of a place of one
pub record IsAmong (ps : List PipeMesh) (start k j i : ℕ) : Type 0 where
  pub place : place_among start ps k ≡ OnPipe (start + j) i
  pub pipe : j < length ps
  pub within : i ≤ (get_or ps j no_pipe).reaches
  pub count : k ≡ all-of (take j ps) + i

pub among : (ps : List PipeMesh) (start k : ℕ) → k < all-of ps → (j : ℕ) × (i : ℕ) × IsAmong ps start k j i
among [] start k h = absurd (omega arith)
among (p ∷ ps) start k h = elim (le_or_more k p.reaches) [
  | inl w ↦ (0, k, record { place = here-at start k p ps w ∙ ap (λ n. OnPipe n k) (omega arith); pipe = omega arith; within = w; count = omega arith })
  | inr w ↦
      let m = all-more p ps in
      let r = among ps (start + 1) (k - (p.reaches + 1)) (omega arith) in
      let f = front-more r.0 p ps in
      let q = r.2 in
      let c = q.count in
      let l = q.pipe in (
        suc r.0,
        r.1,
        record {
          place = past-at start k p ps w ∙ q.place ∙ ap (λ n. OnPipe n r.1) (omega arith);
          pipe = omega arith;
          within = q.within;
          count = omega arith;
        },
      )
]

node-at : (mesh : Mesh) (k : ℕ) → k < length mesh.ends → place_at mesh k ≡ OnNode k
unfolding place_at
node-at mesh k h = rw (lt-ltb k (length mesh.ends) h) refl

pipe-at : (mesh : Mesh) (k : ℕ) → length mesh.ends ≤ k → place_at mesh k ≡ place_among 0 mesh.pipes (k - length mesh.ends)
unfolding place_at
pipe-at mesh k h = rw (le-ltb k (length mesh.ends) h) refl

pub at-number : (mesh : Mesh) (at : ProbeAt) → IsNumbered mesh → IsOn mesh at → place_at mesh (number_of mesh at) ≡ at
at-number mesh (OnNode node) n h = node-at mesh node h
at-number mesh (OnPipe pipe place) n h =
    let b = n.bases pipe h.0 in
    pipe-at mesh (base_of mesh pipe + place) (omega arith)
    ∙ among-at mesh.pipes 0 pipe place (base_of mesh pipe + place - length mesh.ends) h.0 h.1 (omega arith)
    ∙ ap (λ p. OnPipe p place) (omega arith)

-- the places of the pipes up to one are among those of all
first-of-all : (ps : List PipeMesh) (j : ℕ) → j < length ps → all-of (take j ps) + ((get_or ps j no_pipe).reaches + 1) ≤ all-of ps
first-of-all [] j h = absurd (omega arith)
first-of-all (p ∷ ps) zero h = let m = all-more p ps in let f = reaches-first p ps in omega arith
first-of-all (p ∷ ps) (suc j) h =
    let m = all-more p ps in
    let f = front-more j p ps in
    let r : all-of (take j ps) + ((get_or (p ∷ ps) (suc j) no_pipe).reaches + 1) ≤ all-of ps = first-of-all ps j (omega arith) in
    omega arith

pub number-within : (mesh : Mesh) (at : ProbeAt) → IsNumbered mesh → IsOn mesh at → number_of mesh at < mesh.places
number-within mesh (OnNode node) n h = let a = n.all in omega arith
number-within mesh (OnPipe pipe place) n h =
    let b = n.bases pipe h.0 in
    let a = n.all in
    let i = h.1 in
    let f = first-of-all mesh.pipes pipe h.0 in
    let w = ap all-of (take_all (length mesh.pipes) mesh.pipes (omega arith)) in
    omega arith

node-is : (mesh : Mesh) (k : ℕ) (at : ProbeAt) → at ≡ OnNode k → k < length mesh.ends → IsOn mesh at × (number_of mesh at ≡ k)
node-is mesh k at e h = (subst (IsOn mesh) (sym e) h, ap (number_of mesh) e)

pipe-is : (mesh : Mesh) (k j i : ℕ) (at : ProbeAt) → at ≡ OnPipe j i → j < length mesh.pipes → i ≤ reaches mesh j → base_of mesh j + i ≡ k → IsOn mesh at × (number_of mesh at ≡ k)
pipe-is mesh k j i at e h l n = (subst (IsOn mesh) (sym e) (h, l), ap (number_of mesh) e ∙ n)

pub number-at : (mesh : Mesh) (k : ℕ) → IsNumbered mesh → k < mesh.places → IsOn mesh (place_at mesh k) × (number_of mesh (place_at mesh k) ≡ k)
number-at mesh k n h = elim (le_or_more (length mesh.ends) k) [
  | inl w ↦
      let a = n.all in
      let t = ap all-of (take_all (length mesh.pipes) mesh.pipes (omega arith)) in
      let r = among mesh.pipes 0 (k - length mesh.ends) (omega arith) in
      let q = r.2 in
      let b = n.bases r.0 q.pipe in
      let c = q.count in
      pipe-is mesh k r.0 r.1 (place_at mesh k) (pipe-at mesh k w ∙ q.place ∙ ap (λ p. OnPipe p r.1) (omega arith)) q.pipe q.within (omega arith)
  | inr w ↦ node-is mesh k (place_at mesh k) (node-at mesh k w) w
]
