-- What the law of a case relies on: a case within its limits, its mesh with coefficients within
-- theirs, and ends that suit each kind of node.
use Rattle.std.specs.Prelude.{◌≡◌, ◌<◌, ◌≤◌, ℕ, pos, ◌≤ℤ◌, IsTrue, List, length}
use Rattle.case_model.specs.declared.cases.Case.{Case}
use Rattle.case_model.specs.declared.cases.NodeKind.{NodeKind}
use Rattle.case_model.specs.declared.cases.NodeKind.TheVariants.{Reservoir, Junction, Discharge}
use Rattle.case_model.specs.declared.cases.NodeKind.TheVariants.{Inline, Pump, Tank, Vessel}
use Rattle.case_model.specs.declared.meshes.End.{End}
use Rattle.case_model.specs.declared.meshes.Mesh.{Mesh}
use Rattle.case_model.specs.Limits.{IsRead}
use Rattle.case_model.specs.Mesh.{IsMesh, reaches, ends_of}
use Rattle.case_model.specs.Parts.{node_at}
use Rattle.case_model.specs.Refusals.{is_through}
use Rattle.junctions.specs.Sums.{most_arrivals}
use Rattle.scheme.specs.Arrivals.{impedance, resistance}

-- the ends suit the kind of node: one at a discharge valve, two sides at a node between two pipes
abbrev pub Suits : NodeKind → List End → Type 0
Suits (Reservoir head) ends = Unit {0}
Suits (Junction demand start) ends = Unit {0}
Suits (Discharge q0 h0 outlet opening start) ends = length ends ≡ 1
Suits (Inline q0 h0 opening start start2) ends = IsTrue (is_through ends)
Suits (Pump curve speed start start2) ends = IsTrue (is_through ends)
Suits (Tank area start) ends = Unit {0}
Suits (Vessel gas volume) ends = Unit {0}

-- the ends at a node, at least one and not too many, suit its kind
pub record HasEnds (kind : NodeKind) (ends : List End) : Type 0 where
  pub some : 0 < length ends
  pub few : length ends ≤ most_arrivals
  pub suits : Suits kind ends

pub record IsComputable (case : Case) (mesh : Mesh) : Type 0 where
  pub read : IsRead case
  pub good : IsMesh mesh
  pub nodes : length mesh.ends ≡ length case.nodes
  pub pipes : length mesh.pipes ≡ length case.pipes
  pub ends : (k : ℕ) → k < length mesh.ends → HasEnds (node_at case k).kind (ends_of mesh k)
  pub low : (p : ℕ) → p < length mesh.pipes → pos 100_000 ≤ℤ impedance mesh p
  pub high : (p : ℕ) → p < length mesh.pipes → impedance mesh p ≤ℤ pos 10_000_000_000_000
  pub some_friction : (p : ℕ) → p < length mesh.pipes → pos 0 ≤ℤ resistance mesh p
  pub most_friction : (p : ℕ) → p < length mesh.pipes
      → resistance mesh p ≤ℤ pos 100_000_000_000_000_000_000
  pub few : (p : ℕ) → p < length mesh.pipes → reaches mesh p ≤ 65_536
