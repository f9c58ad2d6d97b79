-- What a case has whose division breaks no rule, and what its mesh has of it.
use Rattle.std.specs.Prelude.{◌≡◌, ℕ, ◌<◌, ◌≤◌, true, false, length, slice_index_or}
use Rattle.case_model.specs.declared.cases.Case.{Case}
use Rattle.case_model.specs.declared.meshes.Mesh.{Mesh}
use Rattle.case_model.specs.Division.{divides, node_ends, place_base, pipe_mesh}
use Rattle.case_model.specs.Mesh.{no_pipe, ends_of}
use Rattle.case_model.specs.Parts.{node_at, probe_at}
use Rattle.case_model.specs.Refusals.{ends_suit, exceeds, is_off, most_ends, sample_count}

-- each pipe can be divided; each node has ends that suit its kind, at least one and not too many,
-- and keeps its limits; each probe is on the mesh; and there are not too many places and samples
pub record IsKept (case : Case) : Type 0 where
  pub pipes : (p : ℕ) → p < length case.pipes → divides case p ≡ true
  pub suit : (k : ℕ) → k < length case.nodes
      → ends_suit (most_ends case.version) (node_at case k).kind (node_ends case k) ≡ true
  pub limits : (k : ℕ) → k < length case.nodes
      → exceeds case (node_at case k).kind (node_ends case k) ≡ false
  pub some_ends : (k : ℕ) → k < length case.nodes → 1 ≤ length (node_ends case k)
  pub few_ends : (k : ℕ) → k < length case.nodes
      → length (node_ends case k) ≤ most_ends case.version
  pub probes : (q : ℕ) → q < length case.probes → is_off case (probe_at case q).at ≡ false
  pub places : place_base case (length case.pipes) ≤ 400_000
  pub samples : sample_count case ≤ 4_000_000

-- its pipes in reaches, the ends at each node, and its count of places
pub record HasParts (case : Case) (mesh : Mesh) : Type 0 where
  pub count : length mesh.pipes ≡ length case.pipes
  pub nodes : length mesh.ends ≡ length case.nodes
  pub places : mesh.places ≡ place_base case (length case.pipes)
  pub pipes : (p : ℕ) → p < length case.pipes
      → slice_index_or mesh.pipes p no_pipe ≡ pipe_mesh case p
  pub ends : (k : ℕ) → k < length case.nodes → ends_of mesh k ≡ node_ends case k
