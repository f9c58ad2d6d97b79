-- What strands are when they are made: nothing of them is computed, and their folds were told the
-- initial row of their own places.
use Rattle.std.specs.Prelude.{◌≡◌, ℕ, ◌<◌, List, length, slice_index_or}
use Rattle.case_model.specs.declared.cases.Case.{Case}
use Rattle.case_model.specs.Meaning.{Meaning}
use Rattle.regions.specs.declared.shapes.Layout.{Layout}
use Rattle.regionrun.specs.Engine.{IsStrandAt}
use Rattle.regionrun.specs.Right.{IsBare, IsRight}
use Rattle.regionrun.specs.Surveys.{IsStrandFold}
use Rattle.regionrun.specs.declared.bodies.Body.{Body}
use Rattle.regionrun.specs.declared.bodies.Body.TheVariants.{OfNode, OfSeam, OfSection}
use Rattle.regionrun.specs.declared.frontiers.Frontier.{Frontier}
use Rattle.regionrun.specs.declared.one_strand.Strand.{Strand}
use Rattle.strands.specs.Hubs.{start_marks}
use Rattle.strands.specs.Marks.{Marks, is_only}
use Rattle.strands.specs.Seams.{number_of_seam}
use Rattle.strands.specs.Tents.{starts_inside}

-- step 0 at the strand's own places
abbrev pub first_marks : ℕ → Body → Marks
first_marks w (OfSection section) = starts_inside section
first_marks w (OfSeam seam) = is_only 0 (number_of_seam seam)
first_marks w (OfNode hub) = start_marks w hub

-- strand x as it is made of a case, a layout and the place numbers of probes
pub record IsNewFrontier (case : Case) (law : Meaning) (layout : Layout) (probes : List ℕ) (x : ℕ)
    (frontier : Frontier) : Type 0 where
  pub number_is : frontier.number ≡ x
  pub computed_is : frontier.computed ≡ 0
  pub right : IsRight law layout frontier
  pub bare : IsBare frontier
  pub fold : IsStrandFold case law.mesh layout probes x frontier.fold

-- the same with its stub of the gate, which no region has entered
pub record IsNewStrand {S : Type 0} (strand_of entered_of : S → ℕ) (case : Case) (law : Meaning)
    (layout : Layout) (probes : List ℕ) (x : ℕ) (strand : Strand S) : Type 0 where
  pub at : IsStrandAt strand_of entered_of law layout x 0 strand
  pub fold : IsStrandFold case law.mesh layout probes x strand.frontier.fold

-- the first n strands
pub record AreNew {S : Type 0} (strand_of entered_of : S → ℕ) (case : Case) (law : Meaning)
    (layout : Layout) (probes : List ℕ) (n : ℕ) (strands : List (Strand S)) : Type 0 where
  pub each : length strands ≡ n
  pub strand : (x : ℕ) (d : Strand S) → x < n
      → IsNewStrand strand_of entered_of case law layout probes x (slice_index_or strands x d)
