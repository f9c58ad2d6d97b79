use Rattle.std.proofs.Common.{◌+◌}
use Rattle.std.specs.Prelude.{false}
use Rattle.regionrun.proofs.Halving.{moved}
use Rattle.regionrun.proofs.rounds.turn_of_stations.Goals as goal

pub returns-clause-stations : goal.returns-clause-stations
returns-clause-stations g c =
    moved g.G.Stub.EntryStub.strand_of g.G.Stub.EntryStub.entered_of
    (g.L.Law.meaning c.args.course.now.law.now) c.args.course.now.layout.now false
    c.args.region (c.args.region + 1) 0 c.args.stations.now c.half_round.new.half
    c.half_round.auto.half c.requires.stations c.half_round.ensures.same c.half_round.ensures.each
