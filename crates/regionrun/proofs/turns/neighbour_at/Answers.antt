use Rattle.regionrun.proofs.Turning.{neighbour-is, neighbour-there}
use Rattle.schedule.specs.Plans.{net_of}
use Rattle.regionrun.proofs.turns.neighbour_at.Goals as goal

pub strand_at-found-requires-clause-low : goal.strand_at-found-requires-clause-low
strand_at-found-requires-clause-low g c =
    (neighbour-there g.G.Stub.EntryStub.strand_of g.G.Stub.EntryStub.entered_of
    (g.L.Law.meaning c.args.course.now.law.now) c.args.course.now.layout.now
    (net_of c.args.course.now.plan.now) c.args.turn.of_sections c.args.turn.region
    c.args.beside.now.first c.args.beside.now.strands.now c.args.number c.args.side
    c.link-link.result.strand c.link-link.result.back c.requires.course c.requires.beside
    c.requires.kind c.requires.there c.requires.side
    record { strand = c.link-link.ensures.strand; side = c.link-link.ensures.back }).0

pub strand_at-found-requires-clause-high : goal.strand_at-found-requires-clause-high
strand_at-found-requires-clause-high g c =
    (neighbour-there g.G.Stub.EntryStub.strand_of g.G.Stub.EntryStub.entered_of
    (g.L.Law.meaning c.args.course.now.law.now) c.args.course.now.layout.now
    (net_of c.args.course.now.plan.now) c.args.turn.of_sections c.args.turn.region
    c.args.beside.now.first c.args.beside.now.strands.now c.args.number c.args.side
    c.link-link.result.strand c.link-link.result.back c.requires.course c.requires.beside
    c.requires.kind c.requires.there c.requires.side
    record { strand = c.link-link.ensures.strand; side = c.link-link.ensures.back }).1

pub returns : goal.returns
returns g c =
    neighbour-is g.G.Stub.EntryStub.strand_of g.G.Stub.EntryStub.entered_of
    (g.L.Law.meaning c.args.course.now.law.now) c.args.course.now.layout.now
    (net_of c.args.course.now.plan.now) c.args.turn.of_sections c.args.turn.region
    c.args.beside.now.first c.args.beside.now.strands.now c.args.number c.args.side
    c.link-link.result.strand c.link-link.result.back c.strand_at-found.result.now
    c.requires.course c.requires.beside c.requires.kind c.requires.there c.requires.side
    record { strand = c.link-link.ensures.strand; side = c.link-link.ensures.back }
    c.strand_at-found.ensures
