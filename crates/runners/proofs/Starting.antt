-- A runner of a strand of which nothing is computed.
use Rattle.std.specs.Prelude.{◌≡◌, ℕ, ◌<◌, min, length}
use Rattle.std.proofs.Common.{◌∙◌, ap, sym, subst, arith}
use Rattle.case_model.specs.Meaning.{Meaning}
use Rattle.endhistory.specs.declared.history.History.{History}
use Rattle.endhistory.specs.declared.views.Reading.{Reading}
use Rattle.endhistory.specs.declared.views.Writing.{Writing}
use Rattle.envelope.specs.RowFolds.{probe_numbers}
use Rattle.histories.specs.Opened.{AreReadersOf, IsFreshWriter}
use Rattle.regions.specs.Sides.{is_section, sides_of}
use Rattle.regionrun.specs.Made.{IsNewStrand}
use Rattle.regionrun.specs.Right.{region_count}
use Rattle.regionrun.specs.Stubs.{HasStub}
use Rattle.runners.specs.Runners.{IsGood, computed_in, number_in}
use Rattle.runners.specs.Tags.{IsRunTag, history_of}
use Rattle.runners.specs.declared.runners.Runner.{Runner}
use Rattle.runners.specs.declared.tags.RunTag.{RunTag}
use Rattle.runners.proofs.Listed.{item-of}
use Rattle.runners.proofs.Needing.{none-needed}
use Rattle.schedule.specs.Nets.{needed_of}

pub starting : {L S : Type 0} (meaning : L → Meaning) (strand_of entered_of : S → ℕ)
    (tag : RunTag L) (runner : Runner L S) → IsRunTag meaning tag
    → IsNewStrand strand_of entered_of tag.case.now (meaning tag.law.now) tag.layout.now
    (probe_numbers tag.mesh.now tag.case.now) (number_in runner) runner.strand
    → ((h : History) → IsFreshWriter (meaning tag.law.now) tag.layout.now (number_in runner)
    (history_of tag (number_in runner) h) runner.writer)
    → AreReadersOf (meaning tag.law.now) tag.layout.now tag.histories.now (number_in runner)
    (sides_of tag.layout.now (meaning tag.law.now).mesh (number_in runner)) runner.readers.items
    → runner.number ≡ number_in runner → runner.computed ≡ 0
    → runner.regions ≡ region_count tag.layout.now (number_in runner)
    → IsGood meaning strand_of entered_of tag runner
starting meaning strand_of entered_of tag runner is new writer readers number computed regions =
    let x : ℕ = number_in runner in
    let none : computed_in runner ≡ 0 = new.at.computed_is in
    let some : x < length tag.histories.now =
    subst (λ (k : ℕ). x < k) (sym is.histories.each) new.at.right.there in
    let h : History = item-of tag.histories.now x some in
    record {
      running = record {
        tag_is = is;
        right = new.at.right;
        stub = subst (λ (k : ℕ). HasStub strand_of entered_of x k runner.strand.stub) (sym none)
            new.at.stub;
        fold = new.fold;
        number_is = number;
        computed_is = computed ∙ sym none;
        regions_are = regions;
        writer = record {
          of = λ k. (writer k).of;
          next_is =
              let low : min (computed_in runner) tag.layout.now.windows ≡ 0 = omega arith in
              ap (λ (w : Writing). w.next) (writer h).view ∙ sym low;
        };
        readers = record {
          each = readers.each;
          reader = λ j r there. record {
            of = λ k. (readers.reader j k r there).of;
            next_is = ap (λ (y : Reading). y.next) (readers.reader j h r there).view
                ∙ sym (none-needed (is_section tag.layout.now x))
                ∙ ap (needed_of (is_section tag.layout.now x)) (sym none);
            none_taken = ap (λ (y : Reading). y.taken) (readers.reader j h r there).view;
          };
        };
      };
      bare = new.at.bare;
    }
