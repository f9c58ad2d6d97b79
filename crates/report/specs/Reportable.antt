-- What a report is written from: a case within its limits, its mesh, and a fold over all places of
-- the mesh.
use Rattle.std.specs.Prelude.{◌≡◌, ℕ, ◌<◌, ◌≤◌, true, length, All}
use Rattle.case_model.specs.Accepted.{IsAcceptedMesh}
use Rattle.case_model.specs.PlaceNumbers.{IsOn, number_of}
use Rattle.case_model.specs.declared.cases.Case.{Case}
use Rattle.case_model.specs.declared.cases.ProbeAt.{ProbeAt}
use Rattle.case_model.specs.declared.cases.TheConstants.{MOST_PROBES}
use Rattle.case_model.specs.declared.meshes.Mesh.{Mesh}
use Rattle.envelope.specs.Cells.{is_within}
use Rattle.envelope.specs.Folds.{spans_of, probes_of, steps_of, every_of}
use Rattle.envelope.specs.Kept.{extreme_kept}
use Rattle.envelope.specs.declared.extremes.Extreme.{Extreme}
use Rattle.envelope.specs.declared.folds.Fold.{Fold}

-- a case and its mesh are of one size, within the limits of the case text
pub record IsSized (case : Case) (mesh : Mesh) : Type 0 where
  pub same_nodes : length mesh.ends ≡ length case.nodes
  pub same_pipes : length mesh.pipes ≡ length case.pipes
  pub few_nodes : length case.nodes ≤ 4_096
  pub few_pipes : length case.pipes ≤ 4_096

-- the mesh is that of an accepted case, and the fold keeps the extreme of each of its places
pub record IsOver (mesh : Mesh) (fold : Fold) : Type 0 where
  pub accepted : IsAcceptedMesh mesh
  pub whole : (k : ℕ) → k < mesh.places → is_within (spans_of fold) k ≡ true

pub record IsReportable (case : Case) (mesh : Mesh) (fold : Fold) : Type 0 where
  pub sized : IsSized case mesh
  pub some_pipes : 0 < length case.pipes
  pub over : IsOver mesh fold
  pub same_probes : length (probes_of fold) ≡ length case.probes
  pub same_steps : steps_of fold ≡ case.steps
  pub same_every : every_of fold ≡ case.every
  pub probes_on : All (λ probe. IsOn mesh probe.at) case.probes
  pub few_probes : length case.probes ≤ MOST_PROBES
  pub some_every : 1 ≤ case.every
  pub few_steps : case.steps ≤ 100_000_000

-- the extreme that a fold keeps of each place of a mesh
abbrev pub extremes_of : Mesh → Fold → ProbeAt → Extreme
extremes_of mesh fold at = extreme_kept fold (number_of mesh at)
