use Rattle.case_model.specs.Mesh.{ends_of}
use Rattle.strands.specs.Hubs.{AreNewSpokes}
use Rattle.strands.proofs.hubs.make_spokes.Given as goal

abbrev pub invariant-loop-end : goal.invariant-loop-end
invariant-loop-end g l =
    AreNewSpokes (g.L.Law.meaning l.law) l.window (ends_of l.fn.mesh l.node) l.end-index
    l.spokes.items
