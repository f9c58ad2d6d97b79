use Rattle.std.proofs.Common.{◌+◌}
use Rattle.std.specs.Prelude.{true}
use Rattle.regionrun.proofs.Halving.{moved}
use Rattle.regionrun.proofs.rounds.turn_of_sections.Goals as goal

pub returns-clause-sections : goal.returns-clause-sections
returns-clause-sections g c =
    moved g.G.Stub.EntryStub.strand_of g.G.Stub.EntryStub.entered_of
    (g.L.Law.meaning c.args.course.now.law.now) c.args.course.now.layout.now true
    c.args.region (c.args.region + 1) c.args.first c.args.sections.now c.half_round.new.half
    c.half_round.auto.half c.requires.sections c.half_round.ensures.same c.half_round.ensures.each
