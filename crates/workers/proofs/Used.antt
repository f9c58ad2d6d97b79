-- What finished runners are taken apart into.
use Rattle.std.specs.Prelude.{◌≡◌, ℕ, ◌<◌, Bool, true, false, min, List, length, map}
use Rattle.std.specs.Prelude.{slice_index_or}
use Rattle.std.proofs.Common.{◌∙◌, ap, sym, subst, refl, arith}
use Rattle.std.proofs.lemmas.List.{get_or-map, length-map}
use Rattle.std.proofs.Math.Nat.{min-eq_right}
use Rattle.case_model.specs.Meaning.{Meaning}
use Rattle.envelope.specs.Folds.{IsFoldOf, IsSameFold}
use Rattle.envelope.specs.RowFolds.{probe_numbers}
use Rattle.envelope.specs.declared.folds.Fold.{Fold}
use Rattle.histories.specs.Opened.{AreHistories}
use Rattle.histories.specs.declared.ends.Ends.{Ends}
use Rattle.regions.specs.Sides.{is_section}
use Rattle.regions.specs.declared.shapes.Layout.{Layout}
use Rattle.regionrun.specs.Engine.{AreAt, AreSameFolds, IsStrandAt}
use Rattle.regionrun.specs.Made.{AreNew}
use Rattle.regionrun.specs.Right.{region_count}
use Rattle.regionrun.specs.Stubs.{HasStub}
use Rattle.regionrun.specs.Surveys.{IsStrandFold}
use Rattle.regionrun.specs.declared.one_strand.Strand.{Strand}
use Rattle.runners.proofs.Listed.{item-of}
use Rattle.runners.specs.Ends.{AreReadersAt, IsWriterAt}
use Rattle.runners.specs.Runners.{computed_in, number_in}
use Rattle.runners.specs.declared.runners.Runner.{Runner}
use Rattle.runners.specs.declared.tags.RunTag.{RunTag}
use Rattle.schedule.specs.Nets.{needed_of, regions_of}
use Rattle.workers.specs.Runs.{AreRunners, AreUsedUp, IsRunnerAt}

-- a finished strand has published a block for each window, and has passed as many
all-published : (kind : Bool) (windows : ℕ) → min (regions_of kind windows) windows ≡ windows
all-published true windows = min-eq_right (omega arith)
all-published false windows = min-eq_right (omega arith)

all-passed : (kind : Bool) (windows : ℕ) → needed_of kind (regions_of kind windows) ≡ windows
all-passed true windows = omega arith
all-passed false windows = refl

-- two folds that are made of the same are the same as far as that goes
same-given : (spans : List (ℕ × ℕ)) (probes : List ℕ) (steps every : ℕ) (old new : Fold)
    → IsFoldOf spans probes steps every old → IsFoldOf spans probes steps every new
    → IsSameFold old new
same-given spans probes steps every old new a b = record {
  spans_are = b.spans_are ∙ sym a.spans_are;
  probes_are = b.probes_are ∙ sym a.probes_are;
  steps_are = b.steps_are ∙ sym a.steps_are;
  every_is = b.every_is ∙ sym a.every_is;
}

module _ {L S : Type 0} (meaning : L → Meaning) (strand_of entered_of : S → ℕ) where
  -- what holds of the number and the count of a runner holds of x and c
  at-its-place : (tag : RunTag L) (x c : ℕ) (runner : Runner L S) (P : ℕ → ℕ → Type 0)
      → IsRunnerAt meaning strand_of entered_of tag x c runner
      → P (number_in runner) (computed_in runner) → P x c
  at-its-place tag x c runner P at holds =
      subst (P x) at.computed_is (subst (λ (i : ℕ). P i (computed_in runner)) at.number_is holds)

  -- what is taken from each runner, in order
  each-taken : {X : Type 0} (tag : RunTag L) (count : ℕ → ℕ) (runners : List (Runner L S))
      (part : Runner L S → X) (parts : List X) → parts ≡ map part runners
      → AreRunners meaning strand_of entered_of tag count runners
      → length parts ≡ length tag.layout.now.shapes
  each-taken {X} tag count runners part parts are all =
      ap (length {A = X}) are ∙ length-map runners part ∙ all.each

  part-taken : {X : Type 0} (tag : RunTag L) (count : ℕ → ℕ) (runners : List (Runner L S))
      (part : Runner L S → X) (parts : List X) (x : ℕ) (d : X) (P : X → Type 0)
      → parts ≡ map part runners → AreRunners meaning strand_of entered_of tag count runners
      → x < length tag.layout.now.shapes
      → ((runner : Runner L S) → IsRunnerAt meaning strand_of entered_of tag x (count x) runner
      → P (part runner))
      → P (slice_index_or parts x d)
  part-taken {X} tag count runners part parts x d P are all below holds =
      let inside : x < length runners = subst (λ (n : ℕ). x < n) (sym all.each) below in
      let any : Runner L S = item-of runners x inside in
      subst P
      (sym (ap (λ (ps : List X). slice_index_or ps x d) are
      ∙ get_or-map part runners x any d inside))
      (holds (slice_index_or runners x any) (all.runner x any below))

  -- the strand of a finished runner
  strand-at : (tag : RunTag L) (x c : ℕ) (runner : Runner L S)
      → IsRunnerAt meaning strand_of entered_of tag x c runner
      → IsStrandAt strand_of entered_of (meaning tag.law.now) tag.layout.now x c runner.strand
  strand-at tag x c runner at = record {
    number_is = at.number_is;
    computed_is = at.computed_is;
    right = at.good.running.right;
    bare = at.good.bare;
    stub = at-its-place tag x c runner
        (λ i k. HasStub strand_of entered_of i k runner.strand.stub) at at.good.running.stub;
  }

  pub strands-at : (tag : RunTag L) (runners : List (Runner L S)) (strands : List (Strand S))
      (count : ℕ → ℕ) → AreRunners meaning strand_of entered_of tag count runners
      → strands ≡ map (λ r. r.strand) runners
      → AreAt strand_of entered_of (meaning tag.law.now) tag.layout.now count strands
  strands-at tag runners strands count all are = record {
    each = each-taken tag count runners (λ r. r.strand) strands are all;
    strand = λ x d below. part-taken tag count runners (λ r. r.strand) strands x d
        (IsStrandAt strand_of entered_of (meaning tag.law.now) tag.layout.now x (count x))
        are all below (strand-at tag x (count x));
  }

  pub folds-same : (tag : RunTag L) (probes : List ℕ) (old : List (Strand S))
      (runners : List (Runner L S)) (strands : List (Strand S)) (count : ℕ → ℕ)
      → probes ≡ probe_numbers tag.mesh.now tag.case.now
      → AreNew strand_of entered_of tag.case.now (meaning tag.law.now) tag.layout.now probes
      (length tag.layout.now.shapes) old
      → AreRunners meaning strand_of entered_of tag count runners
      → strands ≡ map (λ r. r.strand) runners → AreSameFolds old strands
  folds-same tag probes old runners strands count same was all are =
      let layout : Layout = tag.layout.now in
      let IsFold : ℕ → Fold → Type 0 =
      IsStrandFold tag.case.now (meaning tag.law.now).mesh layout probes in
      record {
        each = each-taken tag count runners (λ r. r.strand) strands are all ∙ sym was.each;
        fold = λ x d inside.
            let below : x < length layout.shapes = subst (λ (n : ℕ). x < n) was.each inside in
            part-taken tag count runners (λ r. r.strand) strands x d
            (λ s. IsSameFold (slice_index_or old x d).frontier.fold s.frontier.fold) are all below
            (λ runner at.
            let fold : IsFold (number_in runner) runner.strand.frontier.fold =
            subst (λ (ps : List ℕ). IsStrandFold tag.case.now (meaning tag.law.now).mesh layout
            ps (number_in runner) runner.strand.frontier.fold) (sym same) at.good.running.fold in
            same-given _ _ _ _ (slice_index_or old x d).frontier.fold
            runner.strand.frontier.fold (was.strand x d below).fold
            (subst (λ (i : ℕ). IsFold i runner.strand.frontier.fold) at.number_is fold));
      }

  -- the ends of a finished runner
  writer-at : (tag : RunTag L) (x : ℕ) (runner : Runner L S)
      → IsRunnerAt meaning strand_of entered_of tag x (region_count tag.layout.now x) runner
      → IsWriterAt (meaning tag.law.now) tag.layout.now tag.histories.now x
      tag.layout.now.windows runner.writer
  writer-at tag x runner at =
      let layout : Layout = tag.layout.now in
      let IsAfter : ℕ → ℕ → Type 0 = λ i n.
      IsWriterAt (meaning tag.law.now) layout tag.histories.now i n runner.writer in
      subst (IsAfter x) (all-published (is_section layout x) layout.windows)
      (at-its-place tag x (region_count layout x) runner
      (λ i c. IsAfter i (min c layout.windows)) at at.good.running.writer)

  readers-at : (tag : RunTag L) (x : ℕ) (runner : Runner L S)
      → IsRunnerAt meaning strand_of entered_of tag x (region_count tag.layout.now x) runner
      → AreReadersAt (meaning tag.law.now) tag.layout.now tag.histories.now x
      tag.layout.now.windows runner.readers.items
  readers-at tag x runner at =
      let layout : Layout = tag.layout.now in
      let AreAfter : ℕ → ℕ → Type 0 = λ i n.
      AreReadersAt (meaning tag.law.now) layout tag.histories.now i n runner.readers.items in
      subst (AreAfter x) (all-passed (is_section layout x) layout.windows)
      (at-its-place tag x (region_count layout x) runner
      (λ i c. AreAfter i (needed_of (is_section layout i) c)) at at.good.running.readers)

  pub used-up : (tag : RunTag L) (slots : ℕ) (ends : Ends) (runners : List (Runner L S))
      → AreHistories (meaning tag.law.now) tag.layout.now slots ends.histories.items
      → tag.histories.now ≡ ends.histories.items
      → AreRunners meaning strand_of entered_of tag (region_count tag.layout.now) runners
      → ends.writers.items ≡ map (λ r. r.writer) runners
      → ends.readers.items ≡ map (λ r. r.readers) runners
      → AreUsedUp (meaning tag.law.now) tag.layout.now slots ends
  used-up tag slots ends runners histories same all are_writers are_readers =
      let law : Meaning = meaning tag.law.now in
      let layout : Layout = tag.layout.now in
      let count : ℕ → ℕ = region_count layout in
      record {
        histories = histories;
        writer_count = each-taken tag count runners (λ r. r.writer) ends.writers.items
            are_writers all;
        writers = λ x w below. subst (λ hs. IsWriterAt law layout hs x layout.windows
            (slice_index_or ends.writers.items x w)) same
            (part-taken tag count runners (λ r. r.writer) ends.writers.items x w
            (IsWriterAt law layout tag.histories.now x layout.windows) are_writers all below
            (writer-at tag x));
        reader_count = each-taken tag count runners (λ r. r.readers) ends.readers.items
            are_readers all;
        readers = λ x d below. subst (λ hs. AreReadersAt law layout hs x layout.windows
            (slice_index_or ends.readers.items x d).items) same
            (part-taken tag count runners (λ r. r.readers) ends.readers.items x d
            (λ rs. AreReadersAt law layout tag.histories.now x layout.windows rs.items)
            are_readers all below (readers-at tag x));
      }
