-- The mesh of a case: its pipes in reaches, the ends at each node, and the numbers of places.
use Rattle.std.specs.Prelude.{◌≡◌, ◌<◌, ℕ, ◌+◌, ◌==◌, ◌&&◌, not, nat_le, Bool, ℤ, pos, ◌*ℤ◌, ◌-ℤ◌}
use Rattle.std.specs.Prelude.{◌+ℤ◌, unsigned_abs, int_le, List, [], slice_index_or, length, map}
use Rattle.std.specs.Prelude.{take, sum_by}
use Rattle.std.specs.List.{range_with_len}
use Rattle.case_model.specs.declared.cases.Case.{Case}
use Rattle.case_model.specs.declared.cases.Pipe.{Pipe}
use Rattle.case_model.specs.declared.meshes.End.{End}
use Rattle.case_model.specs.declared.meshes.Mesh.{Mesh}
use Rattle.case_model.specs.declared.meshes.PipeMesh.{PipeMesh}
use Rattle.case_model.specs.Mesh.{reaches}
use Rattle.case_model.specs.Formulas.{reach_count, b_of, r_of, elevation_between}
use Rattle.case_model.specs.Parts.{pipe_at, node_at}
use Rattle.case_model.specs.Ends.{ends_at}

-- whether a count of reaches is accepted
abbrev pub is_count : ℕ → Bool
is_count n = nat_le 2 n && nat_le n 65_536

-- whether n reaches adjust the wave speed of a pipe by no more than the tolerance, in 1e-3 of it
unfoldable pub is_adjusted : ℤ → ℤ → ℕ → Pipe → Bool
is_adjusted dt tolerance n p =
    int_le (pos (unsigned_abs (p.length *ℤ pos 1_000_000 -ℤ pos n *ℤ p.speed *ℤ dt)) *ℤ pos 1_000)
    (tolerance *ℤ (pos n *ℤ p.speed *ℤ dt))

-- whether an impedance and a friction are within their limits
unfoldable pub are_accepted : ℤ → ℤ → Bool
are_accepted b r =
    int_le (pos 100_000) b && int_le b (pos 10_000_000_000_000) && int_le (pos 0) r
    && int_le r (pos 100_000_000_000_000_000_000)

-- whether a pipe in n reaches has an impedance and a friction that are accepted
unfoldable pub has_coefficients : ℤ → ℕ → Pipe → Bool
has_coefficients dt n p = are_accepted (b_of dt n p) (r_of n p)

-- whether a pipe can be divided: between two nodes, into an accepted count of reaches, within the
-- tolerance, with coefficients within their limits
abbrev pub is_divided : ℤ → ℤ → Pipe → Bool
is_divided dt tolerance p =
    not (p.first == p.last) && is_count (reach_count dt p)
    && is_adjusted dt tolerance (reach_count dt p) p && has_coefficients dt (reach_count dt p) p

-- the same of pipe number p of a case
unfoldable pub divides : Case → ℕ → Bool
divides case p = is_divided case.dt case.tolerance (pipe_at case p)

-- the count of places before those of pipe p: the nodes, and places 0 to N of each earlier pipe
unfoldable pub place_base : Case → ℕ → ℕ
place_base case p = length case.nodes + sum_by (λ q. reach_count case.dt q + 1) (take p case.pipes)

-- the count of reaches of pipe p, and its impedance
abbrev pub reaches_at : Case → ℕ → ℕ
reaches_at case p = reach_count case.dt (pipe_at case p)

abbrev pub b_at : Case → ℕ → ℤ
b_at case p = b_of case.dt (reaches_at case p) (pipe_at case p)

-- pipe p in reaches
unfoldable pub pipe_mesh : Case → ℕ → PipeMesh
pipe_mesh case p = record {
  reaches = reaches_at case p;
  b = b_at case p;
  r = r_of (reaches_at case p) (pipe_at case p);
  base = place_base case p;
}

-- the ends at node k, in file order of pipes
abbrev pub node_ends : Case → ℕ → List End
node_ends case k = ends_at k 0 case.pipes

-- these are the ends at each node
pub record AreEnds (case : Case) (ends : List (List End)) : Type 0 where
  pub each : length ends ≡ length case.nodes
  pub found : (k : ℕ) → k < length case.nodes → slice_index_or ends k [] ≡ node_ends case k

-- the mesh of a case
unfoldable pub mesh_of : Case → Mesh
mesh_of case = record {
  pipes = map (pipe_mesh case) (range_with_len 0 (length case.pipes));
  ends = map (node_ends case) (range_with_len 0 (length case.nodes));
  places = place_base case (length case.pipes);
}

-- the elevation of place i of pipe p, in 1e-6 m: between those of its nodes, by reaches
abbrev pub elevation : Case → Mesh → ℕ → ℕ → ℤ
elevation case mesh p i =
    elevation_between (node_at case (pipe_at case p).first).elevation
    (node_at case (pipe_at case p).last).elevation i (reaches mesh p)

-- the vapour head of a place of a pipe, and of a node, in 1e-6 m: the elevation plus the case's
-- vapour head
abbrev pub vapour_head : Case → Mesh → ℕ → ℕ → ℤ
vapour_head case mesh p i = elevation case mesh p i +ℤ case.vapour

abbrev pub node_vapour_head : Case → ℕ → ℤ
node_vapour_head case k = (node_at case k).elevation +ℤ case.vapour
