-- What is made ready of an accepted case before its regions are computed.
use Rattle.std.specs.Prelude.{◌≡◌, [], ◌∷◌}
use Rattle.case_model.specs.declared.cases.Case.{Case}
use Rattle.case_model.specs.declared.meshes.Mesh.{Mesh}
use Rattle.envelope.specs.Folds.{IsFoldOf, Stands}
use Rattle.envelope.specs.Notings.{nothing}
use Rattle.envelope.specs.RowFolds.{probe_numbers}
use Rattle.regionrun.specs.Surveys.{IsSurvey}
use Rattle.scheme.specs.Runs.{ArePrepared}
use Rattle.surge_top.specs.declared.rows.Ready.{Ready}

-- its pipes are prepared, its mesh is cut, its probes have place numbers, and its fold over all
-- places was told nothing
pub record IsReady (case : Case) (mesh : Mesh) (ready : Ready) : Type 0 where
  pub prepared : ArePrepared case mesh ready.table.items
  pub survey : IsSurvey case mesh ready.layout ready.probes.items
  pub given : IsFoldOf ((0, mesh.places) ∷ []) (probe_numbers mesh case) case.steps case.every
      ready.fold
  pub fresh : Stands ready.fold nothing
