use Rattle.schedule.specs.LayoutNets.{AreLinked}
use Rattle.schedule.proofs.nets.links_of.Given as goal

abbrev pub invariant-loop-strand : goal.invariant-loop-strand
invariant-loop-strand l = AreLinked l.layout l.mesh l.strand l.links.items
