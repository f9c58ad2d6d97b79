use Rattle.regionrun.specs.Made.{AreNew}
use Rattle.regionrun.proofs.making.make_strands.Given as goal

abbrev pub invariant-loop-number : goal.invariant-loop-number
invariant-loop-number g l =
    AreNew g.G.Stub.EntryStub.strand_of g.G.Stub.EntryStub.entered_of l.survey.case.now
    (g.L.Law.meaning l.law) l.survey.layout.now l.survey.probes.now l.number l.strands.items
