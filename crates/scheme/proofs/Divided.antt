-- The law of a case can be computed over the mesh of a case that division accepts.
use Rattle.std.proofs.Common.{◌≡◌, ℕ, ◌<◌, ◌≤◌, ◌==◌, ◌&&◌, not, true, ℤ, pos, ◌≤ℤ◌, List, length, subst, sym, arith}
use Rattle.std.specs.Prelude.{slice_index_or}
use Rattle.std.proofs.lemmas.Bool.{and_parts}
use Rattle.std.proofs.lemmas.Bool.Decides.{nat_tests}
use Rattle.case_model.specs.declared.cases.Case.{Case}
use Rattle.case_model.specs.declared.cases.Pipe.{Pipe}
use Rattle.case_model.specs.declared.meshes.End.{End}
use Rattle.case_model.specs.declared.meshes.Mesh.{Mesh}
use Rattle.case_model.specs.declared.meshes.PipeMesh.{PipeMesh}
use Rattle.case_model.specs.Accepted.{IsAccepted}
use Rattle.case_model.specs.Division.{is_count, is_adjusted, are_accepted, has_coefficients, divides, is_divided, node_ends, pipe_mesh, mesh_of}
use Rattle.case_model.specs.Formulas.{reach_count, b_of, r_of}
use Rattle.case_model.specs.Kept.{IsKept, HasParts}
use Rattle.case_model.specs.Mesh.{ends_of, no_pipe as no_pipe_mesh}
use Rattle.case_model.specs.Parts.{pipe_at, node_at}
use Rattle.case_model.specs.Refusals.{most_ends}
use Rattle.case_model.proofs.Keeping.{kept, parts}
use Rattle.scheme.specs.Computable.{HasEnds, IsComputable}
use Rattle.scheme.proofs.Suiting.{suiting}
use Rattle.fixed_num.proofs.Orders.{at_most_of}

-- a count of reaches, an impedance and a friction that are accepted
record HasNumbers (n : ℕ) (b r : ℤ) : Type 0 where
  few : n ≤ 65_536
  b_low : pos 100_000 ≤ℤ b
  b_high : b ≤ℤ pos 10_000_000_000_000
  r_low : pos 0 ≤ℤ r
  r_high : r ≤ℤ pos 100_000_000_000_000_000_000

numbers : (n : ℕ) (b r : ℤ) → is_count n ≡ true → are_accepted b r ≡ true → HasNumbers n b r
unfolding are_accepted
numbers n b r h k =
    let x = and_parts _ _ k in
    let y = and_parts _ _ x.0 in
    let z = and_parts _ _ y.0 in
    record {
      few = grind (arith, nat_tests);
      b_low = at_most_of (pos 100_000) b z.0;
      b_high = at_most_of b (pos 10_000_000_000_000) z.1;
      r_low = at_most_of (pos 0) r y.1;
      r_high = at_most_of r (pos 100_000_000_000_000_000_000) x.1;
    }

divided : (dt tolerance : ℤ) (p : Pipe) → is_divided dt tolerance p ≡ true → HasNumbers (reach_count dt p) (b_of dt (reach_count dt p) p) (r_of (reach_count dt p) p)
unfolding has_coefficients
divided dt tolerance p h =
    let n = reach_count dt p in
    let x = and_parts (not (p.first == p.last) && is_count n && is_adjusted dt tolerance n p) (has_coefficients dt n p) h in
    let y = and_parts (not (p.first == p.last) && is_count n) (is_adjusted dt tolerance n p) x.0 in
    let z = and_parts (not (p.first == p.last)) (is_count n) y.0 in
    numbers n (b_of dt n p) (r_of n p) z.1 x.1

numbers_at : (case : Case) (p : ℕ) → divides case p ≡ true → HasNumbers (pipe_mesh case p).reaches (pipe_mesh case p).b (pipe_mesh case p).r
unfolding divides pipe_mesh
numbers_at case p h = divided case.dt case.tolerance (pipe_at case p) h

abbrev NumbersOf : PipeMesh → Type 0
NumbersOf m = HasNumbers m.reaches m.b m.r

on_mesh : (case : Case) (mesh : Mesh) → IsKept case → HasParts case mesh → (p : ℕ) → p < length mesh.pipes → NumbersOf (slice_index_or mesh.pipes p no_pipe_mesh)
on_mesh case mesh rules has p h =
    let l : p < length case.pipes = omega (arith, has.count) in
    subst NumbersOf (sym (has.pipes p l)) (numbers_at case p (rules.pipes p l))

most : (version : ℕ) (n : ℕ) → n ≤ most_ends version → n ≤ most_ends 2
most version n h = grind (arith, nat_tests)

ends_at_node : (case : Case) (mesh : Mesh) → IsKept case → HasParts case mesh → (k : ℕ) → k < length mesh.ends → HasEnds (node_at case k).kind (ends_of mesh k)
ends_at_node case mesh rules has k h =
    let l : k < length case.nodes = omega (arith, has.nodes) in
    subst (λ (ends : List End). HasEnds (node_at case k).kind ends) (sym (has.ends k l)) (record {
      some = rules.some_ends k l;
      few = most case.version (length (node_ends case k)) (rules.few_ends k l);
      suits = suiting (most_ends case.version) (node_at case k).kind (node_ends case k) (rules.suit k l);
    })

parts_of : (case : Case) (mesh : Mesh) → mesh ≡ mesh_of case → HasParts case mesh
parts_of case mesh e = subst (λ (m : Mesh). HasParts case m) (sym e) (parts case)

-- over the mesh of a case that division accepts, the law can be computed
pub computable : (case : Case) (mesh : Mesh) → IsAccepted case mesh → IsComputable case mesh
computable case mesh a =
    let rules = kept case a.kept in
    let has = parts_of case mesh a.divided in
    record {
      read = a.read;
      good = a.good;
      nodes = has.nodes;
      pipes = has.count;
      ends = ends_at_node case mesh rules has;
      low = λ p h. (on_mesh case mesh rules has p h).b_low;
      high = λ p h. (on_mesh case mesh rules has p h).b_high;
      some_friction = λ p h. (on_mesh case mesh rules has p h).r_low;
      most_friction = λ p h. (on_mesh case mesh rules has p h).r_high;
      few = λ p h. (on_mesh case mesh rules has p h).few;
    }
