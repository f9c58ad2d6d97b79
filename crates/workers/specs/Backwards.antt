-- Runners that are made from the last strand to the first.
use Rattle.std.specs.Prelude.{◌≡◌, ℕ, ◌+◌, ◌≤◌, List, length, slice_index_or}
use Rattle.case_model.specs.Meaning.{Meaning}
use Rattle.runners.specs.declared.runners.Runner.{Runner}
use Rattle.runners.specs.declared.tags.RunTag.{RunTag}
use Rattle.workers.specs.Runs.{IsRunnerAt}

-- the runners of the strands from number `first` on, of which nothing is computed, the last first
pub record AreMadeFrom {L S : Type 0} (meaning : L → Meaning) (strand_of entered_of : S → ℕ)
    (tag : RunTag L) (first : ℕ) (runners : List (Runner L S)) : Type 0 where
  pub each : first + length runners ≡ length tag.layout.now.shapes
  pub runner : (x k : ℕ) (d : Runner L S) → first ≤ x
      → x + k + 1 ≡ length tag.layout.now.shapes
      → IsRunnerAt meaning strand_of entered_of tag x 0 (slice_index_or runners k d)
