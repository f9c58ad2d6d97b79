use Rattle.histories.specs.Dealing.{AreWaiting}
use Rattle.histories.specs.Opened.{AreReadersOf}
use Rattle.histories.proofs.opening.take_of.Given as goal

abbrev pub invariant-loop-side : goal.invariant-loop-side
invariant-loop-side g l = record {
  readers : AreReadersOf (g.L.Law.meaning l.opening.law.now) l.opening.layout.now l.histories
      l.strand l.side l.readers.items;
  waiting : AreWaiting (g.L.Law.meaning l.opening.law.now) l.opening.layout.now l.histories
      l.strand l.side l.dealt;
}
