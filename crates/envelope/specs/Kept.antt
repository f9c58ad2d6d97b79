-- What a fold tells, number by number, as its readers answer it.
use Rattle.std.specs.Prelude.{ℕ, ◌/◌, ◌%◌, ◌==◌, ◌&&◌, nat_le, if◌then◌else◌, slice_index}
use Rattle.std.specs.Prelude.{slice_index_or, Option, None}
use Rattle.case_model.specs.Samples.{Sample}
use Rattle.envelope.specs.Extremes.{unmet}
use Rattle.envelope.specs.Layout.{cell_in, line_in, lines_in}
use Rattle.envelope.specs.Lines.{entry_of, told}
use Rattle.envelope.specs.Probes.{places_of}
use Rattle.envelope.specs.declared.extremes.Extreme.{Extreme}
use Rattle.envelope.specs.declared.folds.Fold.{Fold}

-- the extreme of a place
unfoldable pub extreme_kept : Fold → ℕ → Extreme
extreme_kept fold place = slice_index_or fold.cells.items (cell_in fold place) unmet

-- the sample of a probe at a step
unfoldable pub sample_kept : Fold → ℕ → ℕ → Option Sample
sample_kept fold probe step =
    if (step % fold.every == 0) && nat_le step fold.steps
    then told (entry_of (lines_in fold) (line_in fold (slice_index (places_of fold.probes) probe))
    (step / fold.every))
    else None

-- the first fault
unfoldable pub fault_kept : Fold → Option (ℕ × ℕ)
fault_kept fold = fold.fault
