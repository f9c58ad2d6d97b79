-- The stretch of a section, and the fold that notes its places.
use Rattle.std.specs.Prelude.{◌≡◌, ℕ, ◌+◌, ◌-◌, ◌^◌, ◌<◌, ◌≤◌}
use Rattle.case_model.specs.Meaning.{Meaning}
use Rattle.case_model.specs.Mesh.{IsNumbered, base_of}
use Rattle.envelope.specs.Cells.{AreInOneSpan}
use Rattle.envelope.specs.Folds.{IsSameFold, Stands, spans_of}
use Rattle.envelope.specs.declared.folds.Fold.{Fold}
use Rattle.fronts.specs.Bands.{IsOnMesh}
use Rattle.fronts.specs.Fronts.{Holds}
use Rattle.fronts.specs.Stretches.{AreSamePlaces, count_of}
use Rattle.fronts.specs.declared.stretches.Stretch.{Stretch}
use Rattle.strands.specs.Marks.{Marks, is_between, marked, or_marked}

-- the stretch lies on the mesh with its place numbers, and has an inner place
pub record IsLine (law : Meaning) (stretch : Stretch) : Type 0 where
  pub on_mesh : IsOnMesh law stretch
  pub numbered : IsNumbered law.mesh
  pub number_is : stretch.number ≡ base_of law.mesh stretch.pipe + stretch.first
  pub long : 3 ≤ count_of stretch
  pub few : stretch.number + count_of stretch < 2 ^ 32

-- the stretch lies on the mesh with its place numbers
pub record IsNumberedLine (law : Meaning) (stretch : Stretch) : Type 0 where
  pub on_mesh : IsOnMesh law stretch
  pub numbered : IsNumbered law.mesh
  pub number_is : stretch.number ≡ base_of law.mesh stretch.pipe + stretch.first
  pub few : stretch.number + count_of stretch < 2 ^ 32

-- the fold has the places between the ends of the stretch
abbrev pub NotesInside : Stretch → Fold → Type 0
NotesInside stretch fold = AreInOneSpan (spans_of fold) (stretch.number + 1) (count_of stretch - 2)

-- the stretch and the fold are taken from one front to a later one: the stretch holds the points
-- behind it, and the fold was told all that lies between
pub record IsAdvanced (law : Meaning) (since front later : ℕ → ℕ) (old new : Stretch)
    (before after : Fold) : Type 0 where
  pub same : AreSamePlaces old new
  pub same_fold : IsSameFold before after
  pub holds : Holds law since later new
  pub stands : (marks : Marks) → Stands before (marked law marks)
      → Stands after (marked law (or_marked marks (is_between old front later)))
