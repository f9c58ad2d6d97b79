-- What strands are made of, and where they stand on the mesh.
use Rattle.std.specs.Prelude.{◌≡◌, ℕ, ◌+◌, ◌/◌, ◌<◌, ◌≤◌, List, [], ◌∷◌, length}
use Rattle.std.specs.Prelude.{Bool, false, slice_index_or, true}
use Rattle.std.specs.List.{filter}
use Rattle.case_model.specs.declared.cases.Case.{Case}
use Rattle.case_model.specs.declared.meshes.Mesh.{Mesh}
use Rattle.case_model.specs.Mesh.{base_of, ends_of, reaches}
use Rattle.envelope.specs.Cells.{is_within}
use Rattle.envelope.specs.Folds.{IsFoldOf}
use Rattle.envelope.specs.RowFolds.{probe_numbers}
use Rattle.envelope.specs.declared.folds.Fold.{Fold}
use Rattle.regions.specs.declared.shapes.Layout.{Layout}
use Rattle.regions.specs.declared.shapes.Shape.{Shape}
use Rattle.regions.specs.declared.shapes.Shape.TheVariants.{OfNode, OfSeam, OfSection}
use Rattle.regions.specs.LaidOut.{IsCutFor}
use Rattle.regions.specs.Sides.{end_at, shape_at}
use Rattle.regionrun.specs.Right.{strand_spans}

-- the layout is a cut of the case's mesh, and these are the place numbers of the case's probes
pub record IsSurvey (case : Case) (mesh : Mesh) (layout : Layout) (probes : List ℕ) : Type 0 where
  pub cut : IsCutFor case layout mesh
  pub probes_are : probes ≡ probe_numbers mesh case

-- pipe p is one of the mesh, at least as long as a window of w steps, and its place numbers are
-- within the limit
pub record IsSpanned (mesh : Mesh) (w p : ℕ) : Type 0 where
  pub there : p < length mesh.pipes
  pub long : w ≤ reaches mesh p
  pub low : base_of mesh p + reaches mesh p < 400_000

-- the pipes of a strand of this shape are such, and the strand lies within them
abbrev pub HasSpans : Mesh → ℕ → Shape → Type 0
HasSpans mesh w (OfNode node) =
    (node < length mesh.ends)
    × ((j : ℕ) → j < length (ends_of mesh node) → IsSpanned mesh w (end_at mesh node j).pipe)
HasSpans mesh w (OfSeam pipe place left right) =
    IsSpanned mesh w pipe × ((w + 1) / 2 ≤ place) × (place + (w + 1) / 2 ≤ reaches mesh pipe)
HasSpans mesh w (OfSection pipe place count left right) =
    IsSpanned mesh w pipe × (2 ≤ count) × (place + count ≤ reaches mesh pipe)

-- of places that are marked where they have a probe: each probe's place is, or isn't among them
abbrev pub AreProbed : List ℕ → List Bool → Type 0
AreProbed probes probed =
    (j : ℕ) → j < length probes → slice_index_or probed (slice_index_or probes j 0) true ≡ true

-- none of the places of some spans has a probe
abbrev pub HasNoProbe : List (ℕ × ℕ) → List Bool → Type 0
HasNoProbe spans probed =
    (k : ℕ) → is_within spans k ≡ true → slice_index_or probed k true ≡ false

-- the fold of strand x: of the places that its regions reach, with the probes that lie there
abbrev pub IsStrandFold : Case → Mesh → Layout → List ℕ → ℕ → Fold → Type 0
IsStrandFold case mesh layout probes x fold =
    let spans = strand_spans mesh layout.window (shape_at layout x) in
    IsFoldOf spans (filter (is_within spans) probes) case.steps case.every fold

-- a fold over all places, with all probes
abbrev pub IsWholeFold : Case → Mesh → List ℕ → Fold → Type 0
IsWholeFold case mesh probes fold =
    IsFoldOf ((0, mesh.places) ∷ []) probes case.steps case.every fold
