-- When a runner is good for its tag.
use Rattle.std.specs.Prelude.{◌≡◌, ℕ, ◌==◌, min, Bool}
use Rattle.case_model.specs.Meaning.{Meaning}
use Rattle.envelope.specs.RowFolds.{probe_numbers}
use Rattle.regions.specs.Sides.{is_section}
use Rattle.regionrun.specs.Right.{IsBare, IsRight, region_count}
use Rattle.regionrun.specs.Stubs.{HasStub}
use Rattle.regionrun.specs.Surveys.{IsStrandFold}
use Rattle.runners.specs.Ends.{AreReadersAt, IsWriterAt}
use Rattle.runners.specs.Tags.{IsRunTag}
use Rattle.runners.specs.declared.runners.Runner.{Runner}
use Rattle.runners.specs.declared.tags.RunTag.{RunTag}
use Rattle.schedule.specs.Nets.{needed_of}

module _ {L S : Type 0} where
  -- the number of its strand, and how many regions of it are computed
  abbrev pub number_in : Runner L S → ℕ
  number_in runner = runner.strand.frontier.number

  abbrev pub computed_in : Runner L S → ℕ
  computed_in runner = runner.strand.frontier.computed

  -- whether all regions are computed
  abbrev pub is_finished : Runner L S → Bool
  is_finished runner = runner.computed == runner.regions

  -- A runner of a strand of the tag's layout. Its strand is right for the law, and has entered so
  -- many regions; its fold is that which the strand gets for the case. Its writer has published the
  -- blocks of the regions that are computed, and its readers have passed so many blocks
  pub record IsRunning (meaning : L → Meaning) (strand_of entered_of : S → ℕ) (tag : RunTag L)
      (entered passed : ℕ) (runner : Runner L S) : Type 0 where
    pub tag_is : IsRunTag meaning tag
    pub right : IsRight (meaning tag.law.now) tag.layout.now runner.strand.frontier
    pub stub : HasStub strand_of entered_of (number_in runner) entered runner.strand.stub
    pub fold : IsStrandFold tag.case.now (meaning tag.law.now).mesh tag.layout.now
        (probe_numbers tag.mesh.now tag.case.now) (number_in runner) runner.strand.frontier.fold
    pub number_is : runner.number ≡ number_in runner
    pub computed_is : runner.computed ≡ computed_in runner
    pub regions_are : runner.regions ≡ region_count tag.layout.now (number_in runner)
    pub writer : IsWriterAt (meaning tag.law.now) tag.layout.now tag.histories.now
        (number_in runner) (min (computed_in runner) tag.layout.now.windows) runner.writer
    pub readers : AreReadersAt (meaning tag.law.now) tag.layout.now tag.histories.now
        (number_in runner) passed runner.readers.items

  -- Between two advances: as many regions are entered as computed, the readers have passed the
  -- blocks that these needed, and no block is loaded
  pub record IsGood (meaning : L → Meaning) (strand_of entered_of : S → ℕ) (tag : RunTag L)
      (runner : Runner L S) : Type 0 where
    pub running : IsRunning meaning strand_of entered_of tag (computed_in runner)
        (needed_of (is_section tag.layout.now (number_in runner)) (computed_in runner)) runner
    pub bare : IsBare runner.strand.frontier
