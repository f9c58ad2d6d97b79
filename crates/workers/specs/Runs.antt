-- What asynchronous runs go from and give back.
use Rattle.std.specs.Prelude.{◌≡◌, ℕ, ◌<◌, List, length, map, slice_index_or}
use Rattle.case_model.specs.Meaning.{Meaning}
use Rattle.endhistory.specs.declared.history.Reader.{Reader}
use Rattle.endhistory.specs.declared.history.Writer.{Writer}
use Rattle.endhistory.specs.declared.history.History.{History}
use Rattle.histories.specs.Opened.{AreHistories, AreReadersOf, IsFreshWriter}
use Rattle.histories.specs.declared.ends.Ends.{Ends}
use Rattle.regionrun.specs.declared.one_strand.Strand.{Strand}
use Rattle.regions.specs.Sides.{sides_of}
use Rattle.regions.specs.declared.shapes.Layout.{Layout}
use Rattle.runners.specs.Ends.{AreReadersAt, IsWriterAt}
use Rattle.runners.specs.Runners.{IsGood, computed_in, number_in}
use Rattle.runners.specs.declared.runners.Runner.{Runner}
use Rattle.runners.specs.declared.tags.RunTag.{RunTag}
use Rattle.std.specs.Global.{Vec}

module _ {L S : Type 0} where
  -- the runner of strand x of a tag's layout, with so many of its regions computed
  pub record IsRunnerAt (meaning : L → Meaning) (strand_of entered_of : S → ℕ) (tag : RunTag L)
      (x c : ℕ) (runner : Runner L S) : Type 0 where
    pub number_is : number_in runner ≡ x
    pub computed_is : computed_in runner ≡ c
    pub good : IsGood meaning strand_of entered_of tag runner

  -- the runners of all strands of a tag's layout, in order
  pub record AreRunners (meaning : L → Meaning) (strand_of entered_of : S → ℕ) (tag : RunTag L)
      (count : ℕ → ℕ) (runners : List (Runner L S)) : Type 0 where
    pub each : length runners ≡ length tag.layout.now.shapes
    pub runner : (x : ℕ) (d : Runner L S) → x < length tag.layout.now.shapes
        → IsRunnerAt meaning strand_of entered_of tag x (count x) (slice_index_or runners x d)

module _ {L S : Type 0} where
  -- the strands of runners, and their ends
  pub record AreApart (runners : List (Runner L S)) (strands : List (Strand S))
      (writers : List Writer) (readers : List (Vec Reader)) : Type 0 where
    pub strands_are : strands ≡ map (λ r. r.strand) runners
    pub writers_are : writers ≡ map (λ r. r.writer) runners
    pub readers_are : readers ≡ map (λ r. r.readers) runners

-- the writers of the first n strands of a layout, and the readers that these have, as they were
-- opened over these histories
pub record AreFreshEnds (law : Meaning) (layout : Layout) (histories : List History) (n : ℕ)
    (writers : List Writer) (readers : List (Vec Reader)) : Type 0 where
  pub writer_count : length writers ≡ n
  pub each_writer : (x : ℕ) (h : History) (w : Writer) → x < n
      → IsFreshWriter law layout x (slice_index_or histories x h) (slice_index_or writers x w)
  pub reader_count : length readers ≡ n
  pub each_reader : (x : ℕ) (d : Vec Reader) → x < n
      → AreReadersOf law layout histories x (sides_of layout law.mesh x)
      (slice_index_or readers x d).items

-- the histories of a layout with their ends, used up: each writer has published all blocks of its
-- strand, and each reader has passed all of the neighbour's
pub record AreUsedUp (law : Meaning) (layout : Layout) (slots : ℕ) (ends : Ends) : Type 0 where
  pub histories : AreHistories law layout slots ends.histories.items
  pub writer_count : length ends.writers.items ≡ length layout.shapes
  pub writers : (x : ℕ) (w : Writer) → x < length layout.shapes
      → IsWriterAt law layout ends.histories.items x layout.windows
      (slice_index_or ends.writers.items x w)
  pub reader_count : length ends.readers.items ≡ length layout.shapes
  pub readers : (x : ℕ) (d : Vec Reader) → x < length layout.shapes
      → AreReadersAt law layout ends.histories.items x layout.windows
      (slice_index_or ends.readers.items x d).items
