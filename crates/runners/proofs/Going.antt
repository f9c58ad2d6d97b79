-- A runner that has gone on is still a runner of its tag.
use Rattle.std.specs.Prelude.{◌≡◌, ℕ, ◌+◌, ◌<◌, ◌≤◌, ◌==◌, false, min, length, Option}
use Rattle.std.specs.Prelude.{slice_index_or}
use Rattle.std.specs.Global.{Vec}
use Rattle.std.proofs.Common.{◌∙◌, ap, sym, subst, refl, arith}
use Rattle.std.proofs.lemmas.Bool.Decides.{nat_tests}
use Rattle.case_model.specs.Meaning.{Meaning}
use Rattle.envelope.specs.RowFolds.{probe_numbers}
use Rattle.endhistory.specs.Seats.{IsAt, blocks_of, writing}
use Rattle.endhistory.specs.declared.history.History.{History}
use Rattle.endhistory.specs.declared.history.Reader.{Reader}
use Rattle.endhistory.specs.declared.history.Writer.{Writer}
use Rattle.regions.specs.Sides.{is_section}
use Rattle.regionrun.specs.Right.{IsBare, IsRight, IsSameStrand, region_count}
use Rattle.regionrun.specs.Stubs.{HasStub}
use Rattle.regionrun.specs.Surveys.{IsStrandFold}
use Rattle.regionrun.specs.declared.frontiers.Frontier.{Frontier}
use Rattle.regionrun.specs.declared.one_strand.Strand.{Strand}
use Rattle.regionrun.proofs.Merging.{given-still}
use Rattle.runners.specs.Ends.{AreReadersAt, IsWriterAt}
use Rattle.runners.specs.Runners.{IsGood, IsRunning, computed_in, is_finished, number_in}
use Rattle.runners.specs.declared.runners.Runner.{Runner}
use Rattle.runners.specs.declared.tags.RunTag.{RunTag}
use Rattle.runners.proofs.Taking.{writer-on}
use Rattle.schedule.specs.Nets.{needed_of}

below-unless : (a b : ℕ) → a ≤ b → (a == b) ≡ false → a < b
below-unless a b low other = grind (arith, nat_tests)

module _ {L S : Type 0} where
  -- its strand is the same but for how far it is, and its stub and its ends have gone with it
  pub going : (meaning : L → Meaning) (strand_of entered_of : S → ℕ) (tag : RunTag L)
      (e p entered passed : ℕ) (old new : Runner L S)
      → IsRunning meaning strand_of entered_of tag e p old
      → IsRight (meaning tag.law.now) tag.layout.now new.strand.frontier
      → IsSameStrand old.strand.frontier new.strand.frontier
      → HasStub strand_of entered_of (number_in old) entered new.strand.stub
      → new.number ≡ old.number → new.regions ≡ old.regions → new.computed ≡ computed_in new
      → IsWriterAt (meaning tag.law.now) tag.layout.now tag.histories.now (number_in old)
      (min (computed_in new) tag.layout.now.windows) new.writer
      → AreReadersAt (meaning tag.law.now) tag.layout.now tag.histories.now (number_in old) passed
      new.readers.items
      → IsRunning meaning strand_of entered_of tag entered passed new
  going meaning strand_of entered_of tag e p entered passed old new was right same stub number
      regions computed writer readers =
      let law : Meaning = meaning tag.law.now in
      let layout = tag.layout.now in
      let is = sym same.number_is in
      record {
        tag_is = was.tag_is;
        right = right;
        stub = subst (λ (k : ℕ). HasStub strand_of entered_of k entered new.strand.stub) is stub;
        fold = subst (λ (k : ℕ). IsStrandFold tag.case.now law.mesh layout
            (probe_numbers tag.mesh.now tag.case.now) k new.strand.frontier.fold) is
            (given-still _ _ _ _ old.strand.frontier.fold new.strand.frontier.fold was.fold
            same.fold_is);
        number_is = number ∙ was.number_is ∙ is;
        computed_is = computed;
        regions_are = regions ∙ was.regions_are ∙ ap (region_count layout) is;
        writer = subst (λ (k : ℕ). IsWriterAt law layout tag.histories.now k
            (min (computed_in new) layout.windows) new.writer) is writer;
        readers = subst (λ (k : ℕ). AreReadersAt law layout tag.histories.now k passed
            new.readers.items) is readers;
      }

  -- its readers have looked, or its writer has
  pub looking : (meaning : L → Meaning) (strand_of entered_of : S → ℕ) (tag : RunTag L)
      (old new : Runner L S) → IsGood meaning strand_of entered_of tag old
      → new.strand ≡ old.strand → new.number ≡ old.number → new.regions ≡ old.regions
      → new.computed ≡ old.computed
      → IsWriterAt (meaning tag.law.now) tag.layout.now tag.histories.now (number_in old)
      (min (computed_in old) tag.layout.now.windows) new.writer
      → AreReadersAt (meaning tag.law.now) tag.layout.now tag.histories.now (number_in old)
      (needed_of (is_section tag.layout.now (number_in old)) (computed_in old)) new.readers.items
      → IsGood meaning strand_of entered_of tag new
  looking meaning strand_of entered_of tag old new was strand number regions computed writer
      readers =
      let law : Meaning = meaning tag.law.now in
      let layout = tag.layout.now in
      let is = sym strand in
      let run = was.running in
      record {
        running = record {
          tag_is = run.tag_is;
          right = subst (λ (s : Strand S). IsRight law layout s.frontier) is run.right;
          stub = subst (λ (s : Strand S). HasStub strand_of entered_of s.frontier.number
              s.frontier.computed s.stub) is run.stub;
          fold = subst (λ (s : Strand S). IsStrandFold tag.case.now law.mesh layout
              (probe_numbers tag.mesh.now tag.case.now) s.frontier.number s.frontier.fold) is
              run.fold;
          number_is = number ∙ run.number_is ∙ ap (λ (s : Strand S). s.frontier.number) is;
          computed_is = computed ∙ run.computed_is ∙ ap (λ (s : Strand S). s.frontier.computed) is;
          regions_are = regions ∙ run.regions_are
              ∙ ap (λ (s : Strand S). region_count layout s.frontier.number) is;
          writer = subst (λ (s : Strand S). IsWriterAt law layout tag.histories.now
              s.frontier.number (min s.frontier.computed layout.windows) new.writer) is writer;
          readers = subst (λ (s : Strand S). AreReadersAt law layout tag.histories.now
              s.frontier.number
              (needed_of (is_section layout s.frontier.number) s.frontier.computed)
              new.readers.items) is readers;
        };
        bare = subst (λ (s : Strand S). IsBare s.frontier) is was.bare;
      }

  -- its writer has asked for a slot
  pub asking : (meaning : L → Meaning) (strand_of entered_of : S → ℕ) (tag : RunTag L)
      (old : Runner L S) (history : History) (writer : Writer)
      → IsGood meaning strand_of entered_of tag old
      → history ≡ slice_index_or tag.histories.now old.number history
      → IsAt history.table.shared.table_id history.sizes writer.seat
      → blocks_of writer.seat ≡ blocks_of old.writer.seat
      → (writing writer.seat).next ≡ (writing old.writer.seat).next
      → IsGood meaning strand_of entered_of tag (record old { writer = writer })
  asking meaning strand_of entered_of tag old history writer was is at blocks next =
      let run = was.running in
      let x : ℕ = number_in old in
      let some : x < length tag.histories.now =
      subst (λ (k : ℕ). x < k) (sym run.tag_is.histories.each) run.right.there in
      let own : history ≡ slice_index_or tag.histories.now x history =
      subst (λ (k : ℕ). history ≡ slice_index_or tag.histories.now k history) run.number_is is in
      looking meaning strand_of entered_of tag old (record old { writer = writer }) was refl refl
      refl refl
      (writer-on (meaning tag.law.now) tag.layout.now tag.histories.now x
      (min (computed_in old) tag.layout.now.windows)
      (min (computed_in old) tag.layout.now.windows) history old.writer writer run.writer some own
      at blocks (next ∙ run.writer.next_is))
      run.readers

  -- its readers have looked
  pub reading-on : (meaning : L → Meaning) (strand_of entered_of : S → ℕ) (tag : RunTag L)
      (old : Runner L S) (readers : Vec Reader) → IsGood meaning strand_of entered_of tag old
      → AreReadersAt (meaning tag.law.now) tag.layout.now tag.histories.now (number_in old)
      (needed_of (is_section tag.layout.now (number_in old)) (computed_in old)) readers.items
      → IsGood meaning strand_of entered_of tag (record old { readers = readers })
  reading-on meaning strand_of entered_of tag old readers was at =
      looking meaning strand_of entered_of tag old (record old { readers = readers }) was refl refl
      refl refl was.running.writer at

  -- its blocks are taken in
  pub taken-in : (meaning : L → Meaning) (strand_of entered_of : S → ℕ) (tag : RunTag L)
      (old : Runner L S) (strand : Strand S) (readers : Vec Reader) (passed : ℕ)
      → IsRunning meaning strand_of entered_of tag (computed_in old + 1)
      (needed_of (is_section tag.layout.now (number_in old)) (computed_in old)) old
      → IsRight (meaning tag.law.now) tag.layout.now strand.frontier
      → IsSameStrand old.strand.frontier strand.frontier
      × (strand.frontier.computed ≡ computed_in old)
      → strand.stub ≡ old.strand.stub
      → AreReadersAt (meaning tag.law.now) tag.layout.now tag.histories.now (number_in old) passed
      readers.items
      → IsRunning meaning strand_of entered_of tag (computed_in old + 1) passed
      (record old { strand = strand; readers = readers })
  taken-in meaning strand_of entered_of tag old strand readers passed was right same stub at =
      let x : ℕ = number_in old in
      going meaning strand_of entered_of tag (computed_in old + 1)
      (needed_of (is_section tag.layout.now x) (computed_in old)) (computed_in old + 1) passed old
      (record old { strand = strand; readers = readers }) was right same.0
      (subst (λ (o : Option S). HasStub strand_of entered_of x (computed_in old + 1) o)
      (sym stub) was.stub)
      refl refl (was.computed_is ∙ sym same.1)
      (subst (λ (k : ℕ). IsWriterAt (meaning tag.law.now) tag.layout.now tag.histories.now x
      (min k tag.layout.now.windows) old.writer) (sym same.1) was.writer)
      at

  -- a runner that isn't finished has a next region
  pub more-to-do : (meaning : L → Meaning) (strand_of entered_of : S → ℕ) (tag : RunTag L)
      (e p : ℕ) (runner : Runner L S) → IsRunning meaning strand_of entered_of tag e p runner
      → is_finished runner ≡ false
      → computed_in runner < region_count tag.layout.now (number_in runner)
  more-to-do meaning strand_of entered_of tag e p runner is unfinished =
      let low : computed_in runner ≤ region_count tag.layout.now (number_in runner) =
      is.right.regions in
      below-unless (computed_in runner) (region_count tag.layout.now (number_in runner)) low
      (subst (λ (k : ℕ). (k == region_count tag.layout.now (number_in runner)) ≡ false)
      is.computed_is
      (subst (λ (k : ℕ). (runner.computed == k) ≡ false) is.regions_are unfinished))

  -- it has entered its next region
  pub entering : (meaning : L → Meaning) (strand_of entered_of : S → ℕ) (tag : RunTag L)
      (old : Runner L S) (strand : Strand S) → IsGood meaning strand_of entered_of tag old
      → HasStub strand_of entered_of (number_in old) (computed_in old + 1) strand.stub
      → strand.frontier ≡ old.strand.frontier
      → IsRunning meaning strand_of entered_of tag (strand.frontier.computed + 1)
      (needed_of (is_section tag.layout.now strand.frontier.number) strand.frontier.computed)
      (record old { strand = strand })
  entering meaning strand_of entered_of tag old strand was stub same =
      let law : Meaning = meaning tag.law.now in
      let layout = tag.layout.now in
      let is = sym same in
      let run = was.running in
      record {
        tag_is = run.tag_is;
        right = subst (λ (f : Frontier). IsRight law layout f) is run.right;
        stub = subst (λ (f : Frontier). HasStub strand_of entered_of f.number (f.computed + 1)
            strand.stub) is stub;
        fold = subst (λ (f : Frontier). IsStrandFold tag.case.now law.mesh layout
            (probe_numbers tag.mesh.now tag.case.now) f.number f.fold) is run.fold;
        number_is = run.number_is ∙ ap (λ (f : Frontier). f.number) is;
        computed_is = run.computed_is ∙ ap (λ (f : Frontier). f.computed) is;
        regions_are = run.regions_are ∙ ap (λ (f : Frontier). region_count layout f.number) is;
        writer = subst (λ (f : Frontier). IsWriterAt law layout tag.histories.now f.number
            (min f.computed layout.windows) old.writer) is run.writer;
        readers = subst (λ (f : Frontier). AreReadersAt law layout tag.histories.now f.number
            (needed_of (is_section layout f.number) f.computed) old.readers.items) is run.readers;
      }
