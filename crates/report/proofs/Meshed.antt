-- The mesh of an accepted case and its cut are within the limits of their text.
use Rattle.std.proofs.Common.{◌≡◌, ◌∙◌, ℕ, ◌<◌, ◌≤◌, ◌==◌, ◌&&◌, not, true, ℤ, pos, int_le, length, refl, ap, sym, subst, arith}
use Rattle.std.specs.Prelude.{unsigned_abs}
use Rattle.std.proofs.lemmas.Bool.{and_parts}
use Rattle.std.proofs.lemmas.Int.{ints}
use Rattle.case_model.specs.declared.cases.Case.{Case}
use Rattle.case_model.specs.declared.meshes.Mesh.{Mesh}
use Rattle.case_model.specs.declared.meshes.PipeMesh.{PipeMesh}
use Rattle.case_model.specs.Division.{are_accepted, divides, has_coefficients, is_adjusted, is_count, pipe_mesh, reaches_at}
use Rattle.case_model.specs.Formulas.{b_of, r_of, reach_count}
use Rattle.case_model.specs.Kept.{HasParts}
use Rattle.case_model.specs.Parts.{pipe_at}
use Rattle.regions.specs.LaidOut.{IsCutFor, IsLaidOut}
use Rattle.regions.specs.Regions.{IsWhole}
use Rattle.regions.specs.declared.shapes.Layout.{Layout}
use Rattle.report.proofs.Fitting.{KeptLaw, PartsLaw}
use Rattle.report.specs.MeshText.{IsMeshed, division_of}

-- ---- the friction of a reach

size_of : (r : ℤ) → int_le (pos 0) r ≡ true → int_le r (pos 100_000_000_000_000_000_000) ≡ true → unsigned_abs r ≤ 100_000_000_000_000_000_000
size_of r low high = grind (arith, ints)

friction-size : (b r : ℤ) → are_accepted b r ≡ true → unsigned_abs r ≤ 100_000_000_000_000_000_000
unfolding are_accepted
friction-size b r h =
    let b1 = int_le (pos 100_000) b in
    let b2 = int_le b (pos 10_000_000_000_000) in
    let r1 = int_le (pos 0) r in
    let r2 = int_le r (pos 100_000_000_000_000_000_000) in
    let both = and_parts (b1 && b2 && r1) r2 h in
    size_of r (and_parts (b1 && b2) r1 both.0).1 both.1

divided-friction : (case : Case) (p : ℕ) → divides case p ≡ true → unsigned_abs (r_of (reaches_at case p) (pipe_at case p)) ≤ 100_000_000_000_000_000_000
unfolding divides has_coefficients
divided-friction case p h =
    let pipe = pipe_at case p in
    let n = reach_count case.dt pipe in
    friction-size (b_of case.dt n pipe) (r_of n pipe)
    (and_parts (not (pipe.first == pipe.last) && is_count n && is_adjusted case.dt case.tolerance n pipe) (has_coefficients case.dt n pipe) h).1

part-friction : (case : Case) (p : ℕ) → (pipe_mesh case p).r ≡ r_of (reaches_at case p) (pipe_at case p)
unfolding pipe_mesh
part-friction case p = refl

-- ---- the laws of accepted cases and of their cuts

abbrev pub WholeLaw : Type 0
WholeLaw = (layout : Layout) (mesh : Mesh) → IsLaidOut layout mesh → IsWhole layout

pub meshed : (case : Case) (mesh : Mesh) (layout : Layout) → KeptLaw → PartsLaw → WholeLaw → IsCutFor case layout mesh → IsMeshed case mesh layout
meshed case mesh layout kept parts wholes cut =
    let a = cut.accepted in
    let keeps = kept case a.kept in
    let has : HasParts case mesh = subst (HasParts case) (sym a.divided) (parts case) in
    let whole = wholes layout mesh (record { case = case; cut = cut }) in
    record {
      same_pipes = has.count;
      few_pipes = a.read.few_pipes;
      dt = a.read.dt;
      pipes = a.read.pipes;
      some_reaches = a.good.long;
      frictions = λ p h.
          let there : p < length case.pipes = omega (arith, has.count) in
          let here : (division_of mesh p).r ≡ r_of (reaches_at case p) (pipe_at case p) = ap (λ (d : PipeMesh). d.r) (has.pipes p there) ∙ part-friction case p in
          subst (λ r. unsigned_abs r ≤ 100_000_000_000_000_000_000) (sym here) (divided-friction case p (keeps.pipes p there));
      counted = record { few_windows = whole.windows; few_strands = whole.strands };
    }
