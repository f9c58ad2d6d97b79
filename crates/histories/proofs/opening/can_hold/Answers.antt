use Rattle.histories.proofs.Sized.{sides-few, sized}
use Rattle.histories.proofs.opening.can_hold.Goals as goal

pub returns-clause-sizes : goal.returns-clause-sizes
returns-clause-sizes g c =
    let opening = c.args.opening.now in
    let can = c.requires.opening in
    sized opening.layout.now opening.mesh.now opening.slots c.args.strand
    (c.layouts_are_lawful.ensures opening.layout.now opening.mesh.now can.laid_out)
    c.requires.there can.some can.few

pub returns-clause-window : goal.returns-clause-window
returns-clause-window g c =
    let opening = c.args.opening.now in
    (c.layouts_are_lawful.ensures opening.layout.now opening.mesh.now
    c.requires.opening.laid_out).whole.few

pub returns-clause-windows : goal.returns-clause-windows
returns-clause-windows g c =
    let opening = c.args.opening.now in
    (c.layouts_are_lawful.ensures opening.layout.now opening.mesh.now
    c.requires.opening.laid_out).whole.windows

pub returns-clause-sides : goal.returns-clause-sides
returns-clause-sides g c =
    let opening = c.args.opening.now in
    (sides-few opening.layout.now opening.mesh.now c.args.strand
    (c.layouts_are_lawful.ensures opening.layout.now opening.mesh.now
    c.requires.opening.laid_out) c.requires.there).1
