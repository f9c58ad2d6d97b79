-- What a fold is made of, and what it stands for by the numbers that it tells.
use Rattle.std.specs.Prelude.{◌≡◌, ℕ, ◌<◌, List, length, slice_index, true}
use Rattle.envelope.specs.Cells.{is_within}
use Rattle.envelope.specs.Extremes.{HasExtreme}
use Rattle.envelope.specs.Faults.{HasFault}
use Rattle.envelope.specs.Kept.{extreme_kept, sample_kept, fault_kept}
use Rattle.envelope.specs.Notings.{Noted, column, sample_over}
use Rattle.envelope.specs.Probes.{places_of}
use Rattle.envelope.specs.declared.folds.Fold.{Fold}

-- what was given to `make`
abbrev pub spans_of : Fold → List (ℕ × ℕ)
spans_of fold = fold.spans.items

abbrev pub probes_of : Fold → List ℕ
probes_of fold = places_of fold.probes

abbrev pub steps_of : Fold → ℕ
steps_of fold = fold.steps

abbrev pub every_of : Fold → ℕ
every_of fold = fold.every

-- the fold has these spans, probes, steps and `every`
pub record IsFoldOf (spans : List (ℕ × ℕ)) (probes : List ℕ) (steps every : ℕ)
    (fold : Fold) : Type 0 where
  pub spans_are : spans_of fold ≡ spans
  pub probes_are : probes_of fold ≡ probes
  pub steps_are : steps_of fold ≡ steps
  pub every_is : every_of fold ≡ every

-- spans, probes, steps and `every` of two folds are the same
abbrev pub IsSameFold : Fold → Fold → Type 0
IsSameFold old new = IsFoldOf (spans_of old) (probes_of old) (steps_of old) (every_of old) new

-- every number that the fold tells is the definitions' over the map, of the steps 0 to its last:
-- the extreme of each place of its spans, the samples of each probe, and the first fault
pub record Stands (fold : Fold) (map : Noted) : Type 0 where
  pub extremes : (k : ℕ) → is_within (spans_of fold) k ≡ true
      → HasExtreme (column map k) (steps_of fold) (extreme_kept fold k)
  pub samples : (p step : ℕ) → p < length (probes_of fold)
      → sample_kept fold p step
      ≡ sample_over map (every_of fold) (steps_of fold) (slice_index (probes_of fold) p) step
  pub first_fault : HasFault (spans_of fold) (steps_of fold) map (fault_kept fold)
