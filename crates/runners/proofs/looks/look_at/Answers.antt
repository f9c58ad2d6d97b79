use Rattle.std.proofs.Common.{ℕ, ◌<◌, ◌∙◌, ap, subst, sym}
use Rattle.endhistory.specs.Seats.{reading}
use Rattle.endhistory.specs.declared.views.Reading.{Reading}
use Rattle.runners.proofs.Looking.{seen-late, seen-ready}
use Rattle.runners.proofs.Taking.{reader-of, reader-on}
use Rattle.runners.proofs.looks.look_at.Goals as goal

pub look-requires : goal.look-requires
look-requires g c =
    let beside = c.neighbour_at-beside.result in
    record {
      at = (reader-of (g.L.Law.meaning c.args.tag.now.law.now) c.args.tag.now.layout.now
          c.args.tag.now.histories.now c.args.number c.args.side c.requires.reader.0 beside.strand
          beside.back beside.history.now c.args.reader.now c.requires.reader.1
          c.neighbour_at-beside.ensures.strand c.neighbour_at-beside.ensures.back
          c.neighbour_at-beside.ensures.history).at;
    }

pub returns-in-Ready-clause-reader : goal.returns-in-Ready-clause-reader
returns-in-Ready-clause-reader g c = λ n at.
    let beside = c.neighbour_at-beside.result in
    reader-on (g.L.Law.meaning c.args.tag.now.law.now) c.args.tag.now.layout.now
    c.args.tag.now.histories.now c.args.number c.args.side n n beside.strand beside.history.now
    c.args.reader.now c.look.new.reader at c.neighbour_at-beside.ensures.strand
    (subst (λ (k : ℕ). beside.strand < k) (sym c.requires.tag.histories.each)
    c.neighbour_at-beside.ensures.there)
    c.neighbour_at-beside.ensures.history c.in-Ready.ensures.at c.in-Ready.ensures.blocks
    c.in-Ready.ensures.number
    (ap (λ (y : Reading). y.next) c.in-Ready.ensures.view ∙ at.next_is)
    (ap (λ (y : Reading). y.taken) c.in-Ready.ensures.view ∙ at.none_taken)

pub returns-in-NotYet-clause-reader : goal.returns-in-NotYet-clause-reader
returns-in-NotYet-clause-reader g c = λ n at.
    let beside = c.neighbour_at-beside.result in
    reader-on (g.L.Law.meaning c.args.tag.now.law.now) c.args.tag.now.layout.now
    c.args.tag.now.histories.now c.args.number c.args.side n n beside.strand beside.history.now
    c.args.reader.now c.look.new.reader at c.neighbour_at-beside.ensures.strand
    (subst (λ (k : ℕ). beside.strand < k) (sym c.requires.tag.histories.each)
    c.neighbour_at-beside.ensures.there)
    c.neighbour_at-beside.ensures.history c.in-NotYet.ensures.at c.in-NotYet.ensures.blocks
    c.in-NotYet.ensures.number
    (ap (λ (y : Reading). y.next) c.in-NotYet.ensures.view ∙ at.next_is)
    (ap (λ (y : Reading). y.taken) c.in-NotYet.ensures.view ∙ at.none_taken)

pub returns-in-Ready-clause-answer : goal.returns-in-Ready-clause-answer
returns-in-Ready-clause-answer g c = seen-ready (reading c.args.reader.now.seat)
    (reading c.look.new.reader.seat) c.in-Ready.ensures.view c.in-Ready.ensures.answer

pub returns-in-NotYet-clause-answer : goal.returns-in-NotYet-clause-answer
returns-in-NotYet-clause-answer g c =
    let late = seen-late (reading c.args.reader.now.seat) (reading c.look.new.reader.seat)
    c.in-NotYet.published c.in-NotYet.ensures.view c.in-NotYet.ensures.answer.0
    c.in-NotYet.ensures.answer.1 in
    (sym c.neighbour_at-beside.ensures.strand, late.0, late.1)
