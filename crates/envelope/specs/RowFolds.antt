-- Folds that were told the rows of a law.
use Rattle.std.specs.Prelude.{◌≡◌, ℕ, ◌<◌, List, [], ◌∷◌, length, map}
use Rattle.case_model.specs.declared.cases.Case.{Case}
use Rattle.case_model.specs.declared.cases.Probe.{Probe}
use Rattle.case_model.specs.declared.meshes.Mesh.{Mesh}
use Rattle.case_model.specs.Meaning.{Meaning}
use Rattle.case_model.specs.Mesh.{IsNumbered}
use Rattle.case_model.specs.Parts.{probe_at}
use Rattle.envelope.specs.Folds.{Stands, spans_of, probes_of, steps_of, every_of}
use Rattle.case_model.specs.PlaceNumbers.{number_of, IsOn}
use Rattle.envelope.specs.Rows.{rows_noted}
use Rattle.envelope.specs.declared.folds.Fold.{Fold}

-- the place numbers of the probes of a case, in file order
abbrev pub probe_numbers : Mesh → Case → List ℕ
probe_numbers mesh case = map (λ (probe : Probe). number_of mesh probe.at) case.probes

-- the fold keeps every place of the law's mesh, and stands for the law's rows
pub record HasRows (law : Meaning) (fold : Fold) : Type 0 where
  pub numbered : IsNumbered law.mesh
  pub spans : spans_of fold ≡ (0, law.mesh.places) ∷ []
  pub stands : Stands fold (rows_noted law)

-- the fold has the steps, `every` and probes of a case, and each probe is on the law's mesh
pub record IsFoldOfCase (law : Meaning) (case : Case) (fold : Fold) : Type 0 where
  pub steps : steps_of fold ≡ case.steps
  pub every : every_of fold ≡ case.every
  pub probes : probes_of fold ≡ probe_numbers law.mesh case
  pub on : (j : ℕ) → j < length case.probes → IsOn law.mesh (probe_at case j).at
