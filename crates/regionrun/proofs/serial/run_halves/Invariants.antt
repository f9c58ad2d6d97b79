use Rattle.std.specs.Prelude.{true, false}
use Rattle.regionrun.specs.Engine.{AreAtRest, AreSameStrands}
use Rattle.regionrun.proofs.serial.run_halves.Given as goal

abbrev pub invariant-loop-region : goal.invariant-loop-region
invariant-loop-region g l = record {
  stations : AreAtRest g.G.Stub.EntryStub.strand_of g.G.Stub.EntryStub.entered_of
      (g.L.Law.meaning l.course.law.now) l.course.layout.now false l.region 0 l.stations;
  sections : AreAtRest g.G.Stub.EntryStub.strand_of g.G.Stub.EntryStub.entered_of
      (g.L.Law.meaning l.course.law.now) l.course.layout.now true l.region l.first l.sections;
  same_stations : AreSameStrands l.fn.stations l.stations;
  same_sections : AreSameStrands l.fn.sections l.sections;
}
