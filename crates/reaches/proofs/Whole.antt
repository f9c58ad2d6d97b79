-- A case without refusal: each pipe is divided, and the mesh is one in which rows can be computed.
use Rattle.std.proofs.Common.{◌≡◌, ℕ, ◌+◌, ◌<◌, inr, ◌==◌, ◌&&◌, true, false, length, sym, ◌∙◌, arith}
use Rattle.std.proofs.lemmas.Bool.{and_parts, eqb-true}
use Rattle.std.proofs.lemmas.List.Sums.{sum_by_more}
use Rattle.case_model.specs.declared.cases.Case.{Case}
use Rattle.case_model.specs.declared.meshes.PipeMesh.{PipeMesh}
use Rattle.case_model.specs.Sets.{IsEmpty, IsLeast}
use Rattle.case_model.specs.Formulas.{reach_count}
use Rattle.case_model.specs.Parts.{no_pipe}
use Rattle.case_model.specs.Division.{place_base, reaches_at, pipe_mesh}
use Rattle.case_model.specs.Refusals.{is_too_large, size_rules}
use Rattle.reaches.specs.declared.pipes.Division.{Division}
use Rattle.reaches.specs.Decided.{IsDivision}

-- the base of one pipe more
pub base_more : (case : Case) (p : ℕ) → p < length case.pipes → place_base case (p + 1) ≡ place_base case p + (reaches_at case p + 1)
unfolding place_base
base_more case p h = omega (arith, sum_by_more (λ q. reach_count case.dt q + 1) case.pipes p no_pipe h)

pub base_none : (case : Case) → place_base case 0 ≡ length case.nodes
unfolding place_base
base_none case = omega arith

-- the mesh of a pipe, from its division
pub mesh_is : (case : Case) (p : ℕ) (d : Division) (m : PipeMesh) → IsDivision case p d → m.reaches ≡ d.reaches → m.b ≡ d.b → m.r ≡ d.r → m.base ≡ place_base case p → m ≡ pipe_mesh case p
unfolding pipe_mesh
mesh_is case p d m h e f g k = λ i. record { reaches = (e ∙ h.1.reaches) i; b = (f ∙ h.1.b) i; r = (g ∙ h.1.r) i; base = k i }

-- too many places or samples are refused, on no line
pub too_large : (case : Case) → is_too_large case ≡ true → IsLeast (size_rules case) 0 10
unfolding size_rules
too_large case h = record {
  broken = h;
  least = λ l n t.
      let line : 0 ≡ l = eqb-true 0 l ((and_parts (0 == l) ((n == 10) && is_too_large case) t).0) in
      let number : n ≡ 10 = eqb-true n 10 ((and_parts (n == 10) (is_too_large case) ((and_parts (0 == l) ((n == 10) && is_too_large case) t).1)).0) in
      inr (line, omega arith);
}

pub not_too_large : (case : Case) → is_too_large case ≡ false → IsEmpty (size_rules case)
unfolding size_rules
not_too_large case h = λ l n t.
    let large : is_too_large case ≡ true = (and_parts (n == 10) (is_too_large case) ((and_parts (0 == l) ((n == 10) && is_too_large case) t).1)).1 in
    let e : false ≡ true = sym h ∙ large in cc
