use Rattle.histories.specs.Dealing.{AreTaken, AreWaiting}
use Rattle.histories.proofs.opening.take_all.Given as goal

abbrev pub invariant-loop-strand : goal.invariant-loop-strand
invariant-loop-strand g l = record {
  readers : AreTaken (g.L.Law.meaning l.opening.law.now) l.opening.layout.now l.histories l.strand
      l.readers.items;
  waiting : AreWaiting (g.L.Law.meaning l.opening.law.now) l.opening.layout.now l.histories
      l.strand 0 l.dealt;
}
