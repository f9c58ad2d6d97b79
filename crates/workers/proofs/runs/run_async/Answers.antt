-- The ends that the runners of a run are made with, and what finished runners are taken apart into.
use Rattle.std.specs.Prelude.{length}
use Rattle.std.proofs.Common.{subst, sym}
use Rattle.regionrun.specs.Right.{region_count}
use Rattle.workers.specs.Runs.{AreFreshEnds}
use Rattle.workers.proofs.Started.{fresh-ends}
use Rattle.workers.proofs.Used.{folds-same, strands-at, used-up}
use Rattle.workers.proofs.runs.run_async.Goals as goal

pub make_runners-requires-clause-ends : goal.make_runners-requires-clause-ends
make_runners-requires-clause-ends g c κs within =
    let ends = c.in_ok-histories.field-0 in
    let law = g.L.Law.meaning c.args.law.now in
    let layout = c.args.survey.now.layout.now in
    subst (λ hs. AreFreshEnds law layout hs (length layout.shapes) ends.writers.items
    ends.readers.items) (sym c.as_slice.ensures.value)
    (fresh-ends law layout c.args.slots ends c.in_ok-histories.ensures)

pub returns-clause-done : goal.returns-clause-done
returns-clause-done g c =
    strands-at g.L.Law.meaning g.G.Stub.EntryStub.strand_of g.G.Stub.EntryStub.entered_of _
    c.in_ok-runners-2.runners.items c.take_apart.new.parts.strands.items
    (region_count c.args.survey.now.layout.now) c.in_ok-runners-2.ensures
    c.take_apart.ensures.strands.strands_are

pub returns-clause-folds : goal.returns-clause-folds
returns-clause-folds g c =
    folds-same g.L.Law.meaning g.G.Stub.EntryStub.strand_of g.G.Stub.EntryStub.entered_of _
    c.args.survey.now.probes.now c.args.strands.items c.in_ok-runners-2.runners.items
    c.take_apart.new.parts.strands.items (region_count c.args.survey.now.layout.now)
    c.requires.survey.probes_are c.requires.strands c.in_ok-runners-2.ensures
    c.take_apart.ensures.strands.strands_are

pub returns-clause-ends : goal.returns-clause-ends
returns-clause-ends g c =
    used-up g.L.Law.meaning g.G.Stub.EntryStub.strand_of g.G.Stub.EntryStub.entered_of _
    c.args.slots
    (record {
      histories = c.in_ok-histories.field-0.histories;
      writers = c.take_apart.new.parts.writers;
      readers = c.take_apart.new.parts.readers;
    })
    c.in_ok-runners-2.runners.items c.in_ok-histories.ensures.histories c.as_slice.ensures.value
    c.in_ok-runners-2.ensures c.take_apart.ensures.strands.writers_are
    c.take_apart.ensures.strands.readers_are
