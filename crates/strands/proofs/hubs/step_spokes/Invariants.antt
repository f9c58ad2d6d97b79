use Rattle.std.proofs.Common.{◌+◌, take}
use Rattle.envelope.specs.Folds.{IsSameFold, Stands}
use Rattle.strands.proofs.Nodes.{AreStepped}
use Rattle.strands.specs.Marks.{Marks, marked, or_marked}
use Rattle.strands.specs.Spokes.{spokes_marks}
use Rattle.strands.proofs.hubs.step_spokes.Given as goal

abbrev pub invariant-loop-i : goal.invariant-loop-i
invariant-loop-i g l = record {
  stepped : AreStepped (g.L.Law.meaning l.law) l.at.window l.at.start l.at.done l.i
      l.fn.spokes.items l.spokes.items;
  same : IsSameFold l.fn.fold l.fold;
  stands : (marks : Marks) → Stands l.fn.fold (marked (g.L.Law.meaning l.law) marks)
      → Stands l.fold (marked (g.L.Law.meaning l.law) (or_marked marks
      (spokes_marks l.at.window l.at.start l.at.done (l.at.done + 1)
      (take l.i l.fn.spokes.items))));
}
