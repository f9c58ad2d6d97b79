use Rattle.schedule.specs.LayoutNets.{AreLinksOf}
use Rattle.schedule.proofs.nets.links_at.Given as goal

abbrev pub invariant-loop-index : goal.invariant-loop-index
invariant-loop-index l = AreLinksOf l.layout l.mesh l.strand l.index l.links.items
