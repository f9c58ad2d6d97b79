use Rattle.std.proofs.Common.{◌*◌, refl}
use Rattle.histories.proofs.Dealt.{given, shelved}
use Rattle.histories.proofs.Sized.{sides-is}
use Rattle.histories.proofs.opening.make_one.Goals as goal

pub returns-clause-readers : goal.returns-clause-readers
returns-clause-readers g c =
    let law = g.L.Law.meaning c.args.opening.now.law.now in
    let opening = c.args.opening.now in
    let made = c.in_ok-history in
    shelved law opening.layout.now c.args.strand made.history made.readers.items
    c.in_ok-places.places.items c.in_ok-places.ensures
    (given law opening.layout.now c.args.strand c.sides-sides.result made.history
    made.readers.items
    (sides-is opening.layout.now opening.mesh.now law.mesh opening.slots c.args.strand
    (4 * opening.layout.now.window * c.sides-sides.result) c.sides-sides.result
    c.requires.opening.mesh_is c.sides-sides.ensures refl)
    made.ensures.count made.ensures.all made.ensures.numbers)
