use Rattle.std.proofs.Common.{◌≡◌, ◌+◌, ◌∙◌, List, arith, length, length-append, subst, sym}
use Rattle.std.specs.Prelude.{false, true}
use Rattle.regionrun.specs.declared.one_strand.Strand.{Strand}
use Rattle.regionrun.specs.Engine.{AreAtRest, AreSameStrands}
use Rattle.regionrun.proofs.Cutting.{cut-at}
use Rattle.regionrun.proofs.Halving.{all-done, all-folds, sections-start, stations-start}
use Rattle.regionrun.proofs.rounds.run_turns.Goals as goal

pub run_halves-requires-clause-stations : goal.run_halves-requires-clause-stations
run_halves-requires-clause-stations g c κs within =
    let first = c.station_count-first.result in
    let layout = c.args.course.now.layout.now in
    subst (AreAtRest g.G.Stub.EntryStub.strand_of g.G.Stub.EntryStub.entered_of
    (g.L.Law.meaning c.args.course.now.law.now) c.args.course.now.layout.now false 0 0)
    (sym c.split_at_mut-stations.ensures.front)
    (stations-start g.G.Stub.EntryStub.strand_of g.G.Stub.EntryStub.entered_of
    (g.L.Law.meaning c.args.course.now.law.now) c.args.course.now.layout.now first
    c.args.strands.now
    (cut-at layout (g.L.Law.meaning c.args.course.now.law.now).mesh first
    c.requires.course.lawful.laid_out c.station_count-first.ensures.few
    c.station_count-first.ensures.below c.station_count-first.ensures.there) c.requires.strands)

pub run_halves-requires-clause-sections : goal.run_halves-requires-clause-sections
run_halves-requires-clause-sections g c κs within =
    let first = c.station_count-first.result in
    let layout = c.args.course.now.layout.now in
    subst (AreAtRest g.G.Stub.EntryStub.strand_of g.G.Stub.EntryStub.entered_of
    (g.L.Law.meaning c.args.course.now.law.now) c.args.course.now.layout.now true 0 first)
    (sym c.split_at_mut-stations.ensures.back)
    (sections-start g.G.Stub.EntryStub.strand_of g.G.Stub.EntryStub.entered_of
    (g.L.Law.meaning c.args.course.now.law.now) c.args.course.now.layout.now first
    c.args.strands.now
    (cut-at layout (g.L.Law.meaning c.args.course.now.law.now).mesh first
    c.requires.course.lawful.laid_out c.station_count-first.ensures.few
    c.station_count-first.ensures.below c.station_count-first.ensures.there) c.requires.strands)

pub returns-clause-done : goal.returns-clause-done
returns-clause-done g c =
    let low = c.run_halves.new.stations in
    let high = c.run_halves.new.sections in
    let split = c.split_at_mut-stations.ensures in
    let sum : length low + length high ≡ length c.args.course.now.layout.now.shapes =
    omega (
      arith,
      c.run_halves.auto.stations,
      c.run_halves.auto.sections,
      split.front_len,
      split.back_len,
      c.requires.strands.each,
    ) in
    all-done g.G.Stub.EntryStub.strand_of g.G.Stub.EntryStub.entered_of
    (g.L.Law.meaning c.args.course.now.law.now) c.args.course.now.layout.now
    c.station_count-first.result low high (c.run_halves.auto.stations ∙ split.front_len) sum
    (length-append low high ∙ sum) c.run_halves.ensures.stations c.run_halves.ensures.sections

pub returns-clause-folds : goal.returns-clause-folds
returns-clause-folds g c =
    let low = c.run_halves.new.stations in
    let high = c.run_halves.new.sections in
    let split = c.split_at_mut-stations.ensures in
    let sum : length low + length high ≡ length c.args.strands.now =
    omega (
      arith,
      c.run_halves.auto.stations,
      c.run_halves.auto.sections,
      split.front_len,
      split.back_len,
    ) in
    all-folds c.station_count-first.result c.args.strands.now low high
    (c.run_halves.auto.stations ∙ split.front_len)
    (omega (arith, c.station_count-first.ensures.few, c.requires.strands.each))
    (length-append low high ∙ sum)
    (subst (λ (xs : List (Strand g.row.G-Stub.Denot)). AreSameStrands xs low) split.front
    c.run_halves.ensures.same_stations)
    (subst (λ (xs : List (Strand g.row.G-Stub.Denot)). AreSameStrands xs high) split.back
    c.run_halves.ensures.same_sections)
