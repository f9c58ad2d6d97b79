use Rattle.std.specs.Prelude.{ℕ, ◌+◌, ◌<◌, ◌≤◌, length, slice_index_or}
use Rattle.regionrun.specs.Engine.{AreSameStrands, IsAtRest}
use Rattle.regionrun.specs.declared.one_strand.Strand.{Strand}
use Rattle.regionrun.proofs.serial.half_round.Given as goal

abbrev pub invariant-loop-x : goal.invariant-loop-x
invariant-loop-x g l = record {
  done : (i : ℕ) (d : Strand g.row.G-Stub.Denot) → i < l.x
      → IsAtRest g.G.Stub.EntryStub.strand_of g.G.Stub.EntryStub.entered_of
      (g.L.Law.meaning l.course.law.now) l.course.layout.now l.turn.of_sections
      (l.turn.region + 1) (slice_index_or l.half i d);
  rest : (i : ℕ) (d : Strand g.row.G-Stub.Denot) → l.x ≤ i → i < length l.half
      → IsAtRest g.G.Stub.EntryStub.strand_of g.G.Stub.EntryStub.entered_of
      (g.L.Law.meaning l.course.law.now) l.course.layout.now l.turn.of_sections l.turn.region
      (slice_index_or l.half i d);
  same : AreSameStrands l.fn.half l.half;
}
