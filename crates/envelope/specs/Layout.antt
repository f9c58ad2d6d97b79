-- Where a fold keeps the numbers of its places in memory, and that these are the definitions' over
-- a map.
use Rattle.std.specs.Prelude.{◌≡◌, ℕ, List, [], Option, Some, None, length, slice_index}
use Rattle.std.specs.Prelude.{slice_index_or, true}
use Rattle.case_model.specs.Samples.{Sample}
use Rattle.envelope.specs.Cells.{bases_of, is_within, cell_of}
use Rattle.envelope.specs.Extremes.{HasExtreme, unmet}
use Rattle.envelope.specs.Faults.{HasFault}
use Rattle.envelope.specs.Lines.{HasSamples}
use Rattle.envelope.specs.Notings.{Noted, column}
use Rattle.envelope.specs.Probes.{lines_of, marks_of}
use Rattle.envelope.specs.declared.extremes.Extreme.{Extreme}
use Rattle.envelope.specs.declared.folds.Fold.{Fold}
use Rattle.envelope.specs.declared.samples.Sample.{Sample as Kept}

-- the lines of samples, and which of them belongs to each cell
abbrev pub lines_in : Fold → List (List (Option Kept))
lines_in fold = lines_of fold.probes

abbrev pub marks_in : Fold → List (Option ℕ)
marks_in fold = marks_of fold.probes

-- the cell of a place, the count of cells, and the line of samples that a place has
abbrev pub cell_in : Fold → ℕ → ℕ
cell_in fold place = cell_of fold.spans.items (bases_of fold.spans.items) place

abbrev pub count_of_cells : Fold → ℕ
count_of_cells fold = slice_index (bases_of fold.spans.items) (length fold.spans.items)

abbrev pub line_in : Fold → ℕ → Option ℕ
line_in fold place = slice_index_or (marks_in fold) (cell_in fold place) None

-- the numbers of one place are those of what is taken of it: its extreme, and its line of samples
-- where it has one
pub record IsStanding (spans : List (ℕ × ℕ)) (bases : List ℕ) (steps every : ℕ)
    (marks : List (Option ℕ)) (cells : List Extreme) (samples : List (List (Option Kept)))
    (place : ℕ) (f : ℕ → Option Sample) : Type 0 where
  pub envelope : HasExtreme f steps (slice_index_or cells (cell_of spans bases place) unmet)
  pub line_has : (line : ℕ) → slice_index_or marks (cell_of spans bases place) None ≡ Some line
      → HasSamples f steps every (slice_index_or samples line [])

abbrev pub StandsAt : Fold → ℕ → (ℕ → Option Sample) → Type 0
StandsAt fold place f =
    IsStanding fold.spans.items (bases_of fold.spans.items) fold.steps fold.every (marks_in fold)
    fold.cells.items (lines_in fold) place f

-- each cell, each line of samples and the fault is the definitions' over the map
pub record IsHeld (fold : Fold) (map : Noted) : Type 0 where
  pub places : (k : ℕ) → is_within fold.spans.items k ≡ true → StandsAt fold k (column map k)
  pub first_fault : HasFault fold.spans.items fold.steps map fold.fault
