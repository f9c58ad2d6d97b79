use Rattle.schedule.specs.LayoutNets.{AreKinds}
use Rattle.schedule.proofs.nets.kinds_of.Given as goal

abbrev pub invariant-loop-shape : goal.invariant-loop-shape
invariant-loop-shape l = AreKinds l.layout l.shape-index l.kinds.items
