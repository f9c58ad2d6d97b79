use Rattle.std.proofs.Common.{subst, sym}
use Rattle.envelope.specs.Folds.{Stands}
use Rattle.regionrun.proofs.Made.{hub-now, seam-now}
use Rattle.regionrun.specs.Bodies.{IsBodyAt}
use Rattle.regionrun.specs.Made.{first_marks}
use Rattle.regionrun.specs.declared.bodies.Body.{Body}
use Rattle.strands.specs.Marks.{marked, or_marked}
use Rattle.regionrun.proofs.making.note_first.Goals as goal

pub returns-in-OfSection-clause-stands : goal.returns-in-OfSection-clause-stands
returns-in-OfSection-clause-stands g c = λ marks st.
    let law = g.L.Law.meaning c.args.law.now in
    let w = c.args.window in
    subst (λ (z : Body). Stands c.note_start.new.fold
    (marked law (or_marked marks (first_marks w z)))) (sym c.in-OfSection.is)
    (c.note_start.ensures.stands law marks
    (subst (λ (z : Body). IsBodyAt law w z 0) c.in-OfSection.is c.requires.at) st)

pub returns-in-OfSeam-clause-stands : goal.returns-in-OfSeam-clause-stands
returns-in-OfSeam-clause-stands g c = λ marks st.
    let law = g.L.Law.meaning c.args.law.now in
    let w = c.args.window in
    subst (λ (z : Body). Stands c.note_start-in-OfSeam.new.fold
    (marked law (or_marked marks (first_marks w z)))) (sym c.in-OfSeam.is)
    (c.note_start-in-OfSeam.ensures.stands law w marks
    (seam-now law w c.in-OfSeam.seam
    (subst (λ (z : Body). IsBodyAt law w z 0) c.in-OfSeam.is c.requires.at)) st)

pub returns-in-OfNode-clause-stands : goal.returns-in-OfNode-clause-stands
returns-in-OfNode-clause-stands g c = λ marks st.
    let law = g.L.Law.meaning c.args.law.now in
    let w = c.args.window in
    subst (λ (z : Body). Stands c.note_start-in-OfNode.new.fold
    (marked law (or_marked marks (first_marks w z)))) (sym c.in-OfNode.is)
    (c.note_start-in-OfNode.ensures.stands law w marks
    (hub-now law w c.in-OfNode.hub
    (subst (λ (z : Body). IsBodyAt law w z 0) c.in-OfNode.is c.requires.at)) st)
