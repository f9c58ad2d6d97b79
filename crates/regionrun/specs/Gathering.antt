-- What the folds of all strands have to be so that they can be gathered into one.
use Rattle.std.specs.Prelude.{◌≡◌, ℕ, ◌<◌, true, List, length, slice_index_or}
use Rattle.std.specs.List.{filter}
use Rattle.case_model.specs.Meaning.{Meaning}
use Rattle.envelope.specs.Cells.{is_within}
use Rattle.envelope.specs.Folds.{every_of, probes_of, spans_of, steps_of}
use Rattle.envelope.specs.declared.folds.Fold.{Fold}
use Rattle.regions.specs.declared.shapes.Layout.{Layout}
use Rattle.regions.specs.LaidOut.{IsLaidOut}
use Rattle.regionrun.specs.declared.one_strand.Strand.{Strand}
use Rattle.regionrun.specs.Right.{IsRight, region_count}

-- the places of a fold are among those of another, and it has the probes that lie there
pub record IsPart (whole part : Fold) : Type 0 where
  pub inside : (k : ℕ) → is_within (spans_of part) k ≡ true → is_within (spans_of whole) k ≡ true
  pub probes_are : probes_of part ≡ filter (is_within (spans_of part)) (probes_of whole)
  pub steps_are : steps_of part ≡ steps_of whole
  pub every_is : every_of part ≡ every_of whole

-- the fold of each strand is such a part
abbrev pub AreParts : {S : Type 0} → Fold → List (Strand S) → Type 0
AreParts {S} whole strands =
    (x : ℕ) (d : Strand S) → x < length strands
    → IsPart whole (slice_index_or strands x d).frontier.fold

-- strand x of a layout, with all its regions computed
pub record IsDone {S : Type 0} (law : Meaning) (layout : Layout) (x : ℕ) (strand : Strand S)
    : Type 0 where
  pub number_is : strand.frontier.number ≡ x
  pub computed_is : strand.frontier.computed ≡ region_count layout x
  pub right : IsRight law layout strand.frontier

-- all strands of a layout of the law's mesh are done
pub record AreDone {S : Type 0} (law : Meaning) (layout : Layout) (strands : List (Strand S))
    : Type 0 where
  pub laid_out : IsLaidOut layout law.mesh
  pub each : length strands ≡ length layout.shapes
  pub strand : (x : ℕ) (d : Strand S) → x < length layout.shapes
      → IsDone law layout x (slice_index_or strands x d)
