use Rattle.std.proofs.Common.{arith}
use Rattle.std.proofs.lemmas.Grind.{common_steps}
use Rattle.regions.specs.Layouts.{layout_of, shapes_of}
use Rattle.regions.proofs.Sound.{limited_for}
use Rattle.regions.proofs.Windowed.{window-some}
use Rattle.regions.proofs.layouts.layout.Goals as goal

pub windows-windows-requires-clause-some : goal.windows-windows-requires-clause-some
windows-windows-requires-clause-some c = window-some c.args.mesh.now c.args.wish _ c.requires.accepted.good c.requires.some c.window-window.ensures.least

pub windows-windows-requires-clause-few : goal.windows-windows-requires-clause-few
windows-windows-requires-clause-few c = let l = c.window-window.ensures.least.wished in omega arith

pub nodes-requires : goal.nodes-requires
nodes-requires c = limited_for c.args.case.now c.args.mesh.now c.requires.accepted

pub add_seams-requires-clause-limits : goal.add_seams-requires-clause-limits
add_seams-requires-clause-limits c = limited_for c.args.case.now c.args.mesh.now c.requires.accepted

pub add_sections-requires-clause-limits : goal.add_sections-requires-clause-limits
add_sections-requires-clause-limits c = limited_for c.args.case.now c.args.mesh.now c.requires.accepted

pub returns-clause-layout : goal.returns-clause-layout
unfolding layout_of shapes_of
returns-clause-layout c = grind (arith, common_steps)
