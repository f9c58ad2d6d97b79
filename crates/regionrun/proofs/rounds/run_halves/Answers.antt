use Rattle.std.proofs.Common.{◌≡◌, ℕ, arith, subst}
use Rattle.std.specs.Prelude.{true, false}
use Rattle.regionrun.specs.Engine.{AreAtRest}
use Rattle.regionrun.proofs.Halving.{strands-on, strands-same}
use Rattle.regionrun.proofs.rounds.run_halves.Goals as goal

pub loop-region-init : goal.loop-region-init
loop-region-init g c = record {
  stations = c.requires.stations;
  sections = c.requires.sections;
  same_stations = strands-same c.args.stations.now;
  same_sections = strands-same c.args.sections.now;
}

pub loop-region-preserved : goal.loop-region-preserved
loop-region-preserved g c = record {
  stations = c.round.ensures.stations;
  sections = c.round.ensures.sections;
  same_stations = strands-on c.args.stations.now c.loop-region.stations c.round.new.stations
      c.loop-region.auto.stations c.loop-region.invariant.same_stations
      c.round.ensures.same_stations;
  same_sections = strands-on c.args.sections.now c.loop-region.sections c.round.new.sections
      c.loop-region.auto.sections c.loop-region.invariant.same_sections
      c.round.ensures.same_sections;
}

pub turn_of_sections-requires-clause-stations : goal.turn_of_sections-requires-clause-stations
turn_of_sections-requires-clause-stations g c κs within =
    let end : c.loop-region.region ≡ c.args.course.now.layout.now.windows =
    omega (arith, c.loop-region-test.false, c.loop-region.auto.region-end) in
    subst (λ (k : ℕ). AreAtRest g.G.Stub.EntryStub.strand_of g.G.Stub.EntryStub.entered_of
    (g.L.Law.meaning c.args.course.now.law.now) c.args.course.now.layout.now false k 0
    c.loop-region.stations) end c.loop-region.invariant.stations

pub turn_of_sections-requires-clause-sections : goal.turn_of_sections-requires-clause-sections
turn_of_sections-requires-clause-sections g c κs within =
    let end : c.loop-region.region ≡ c.args.course.now.layout.now.windows =
    omega (arith, c.loop-region-test.false, c.loop-region.auto.region-end) in
    subst (λ (k : ℕ). AreAtRest g.G.Stub.EntryStub.strand_of g.G.Stub.EntryStub.entered_of
    (g.L.Law.meaning c.args.course.now.law.now) c.args.course.now.layout.now true k
    c.args.first c.loop-region.sections) end c.loop-region.invariant.sections

pub returns-clause-stations : goal.returns-clause-stations
returns-clause-stations g c =
    let end : c.loop-region.region ≡ c.args.course.now.layout.now.windows =
    omega (arith, c.loop-region-test.false, c.loop-region.auto.region-end) in
    subst (λ (k : ℕ). AreAtRest g.G.Stub.EntryStub.strand_of g.G.Stub.EntryStub.entered_of
    (g.L.Law.meaning c.args.course.now.law.now) c.args.course.now.layout.now false k 0
    c.loop-region.stations) end c.loop-region.invariant.stations

pub returns-clause-same_sections : goal.returns-clause-same_sections
returns-clause-same_sections g c =
    strands-on c.args.sections.now c.loop-region.sections c.turn_of_sections.new.sections
    c.loop-region.auto.sections c.loop-region.invariant.same_sections
    c.turn_of_sections.ensures.same
