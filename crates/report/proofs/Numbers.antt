-- Place numbers.
use Rattle.std.proofs.Common.{◌≡◌, ℕ, ◌+◌, ◌*◌, ◌/◌, ◌<◌, ◌≤◌, ◌⊎◌, inl, inr, arith}
use Rattle.std.proofs.Math.Nat.{div-mul-le_self}
use Rattle.std.proofs.lemmas.Nat.{mul-le}
use Rattle.case_model.specs.declared.cases.ProbeAt.{ProbeAt}
use Rattle.case_model.specs.declared.cases.ProbeAt.TheVariants.{OnPipe, OnNode}
use Rattle.case_model.specs.declared.meshes.Mesh.{Mesh}
use Rattle.case_model.specs.PlaceNumbers.{IsOn}
use Rattle.report.specs.Places.{IsOnPipe}

-- a place of a pipe is one of the mesh
pub on_pipe : (mesh : Mesh) (at : ProbeAt) → IsOnPipe mesh at → IsOn mesh at
on_pipe mesh (OnPipe pipe place) h = h
on_pipe mesh (OnNode _) h = elim h [ ]

-- a step that is sampled is one up to the last
pub step-within : (j every steps : ℕ) → j ≤ steps / every → j * every ≤ steps
step-within j every steps h = omega (arith, div-mul-le_self steps every, mul-le j every (steps / every) every h (omega arith))

within_or_over : (n r : ℕ) → (r ≤ n + 1) ⊎ (n + 2 ≤ r)
within_or_over n r = grind arith

not_over : (n d r : ℕ) → 0 < d → 2 * r * d ≤ 2 * n + d → n + 2 ≤ r → ⊥
not_over n d r some h over =
    let a : (n + 2) * d ≤ r * d = mul-le (n + 2) d r d over (omega arith) in
    let b : n * 1 ≤ n * d = mul-le n 1 n d (omega arith) (omega arith) in
    let s : (n + 2) * d ≡ n * d + 2 * d = omega arith in
    let t : 2 * r * d ≡ 2 * (r * d) = omega arith in
    omega (arith, a, b, s, t, h)

quotient_case : (n d r : ℕ) → 0 < d → 2 * r * d ≤ 2 * n + d → (r ≤ n + 1) ⊎ (n + 2 ≤ r) → r ≤ n + 1
quotient_case n d r some h (inl e) = e
quotient_case n d r some h (inr e) = absurd (not_over n d r some h e)

-- a rounded quotient is at most one more than what is divided
pub quotient-small : (n d r : ℕ) → 0 < d → 2 * r * d ≤ 2 * n + d → r ≤ n + 1
quotient-small n d r some h = quotient_case n d r some h (within_or_over n r)
