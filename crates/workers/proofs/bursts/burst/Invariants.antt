-- What holds while a strand that is held is advanced.
use Rattle.std.specs.Prelude.{◌≡◌, length}
use Rattle.runners.specs.Runners.{IsGood, number_in}
use Rattle.runners.specs.Tags.{HasRoom}
use Rattle.workers.proofs.bursts.burst.Given as goal

abbrev pub invariant-loop : goal.invariant-loop
invariant-loop g l = record {
  good : IsGood g.L.Law.meaning g.G.Stub.EntryStub.strand_of g.G.Stub.EntryStub.entered_of
      l.tag l.runner;
  number : number_in l.runner ≡ number_in l.fn.runner;
  room : HasRoom l.tag.layout.now l.tag.mesh.now (length l.scratch);
  same : length l.scratch ≡ length l.fn.scratch;
}
