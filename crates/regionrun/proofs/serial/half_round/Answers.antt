use Rattle.std.proofs.Common.{◌+◌, ◌<◌, arith, length}
use Rattle.regionrun.specs.Engine.{IsAtRest}
use Rattle.regionrun.proofs.Halving.{done-more, rest-less, strands-on, strands-same, strands-set}
use Rattle.regionrun.proofs.serial.half_round.Goals as goal

pub loop-x-init : goal.loop-x-init
loop-x-init g c = record {
  done = λ i d below. absurd (omega arith);
  rest = λ i d low below. c.requires.each.each i d below;
  same = strands-same c.args.half.now;
}

pub advance-requires-clause-rest : goal.advance-requires-clause-rest
advance-requires-clause-rest g c κs within =
    c.loop-x.invariant.rest c.loop-x.x c.index-half-x.result (omega arith)
    (omega (arith, c.loop-x.auto.half, c.loop-x-test.true))

pub loop-x-preserved : goal.loop-x-preserved
loop-x-preserved g c =
    let half = c.loop-x.half in
    let x = c.loop-x.x in
    let new = c.advance.new.strand in
    let inside : x < length half = omega (arith, c.loop-x.auto.half, c.loop-x-test.true) in
    record {
      done = done-more (IsAtRest g.G.Stub.EntryStub.strand_of g.G.Stub.EntryStub.entered_of
          (g.L.Law.meaning c.args.course.now.law.now) c.args.course.now.layout.now
          c.args.turn.of_sections (c.args.turn.region + 1)) x half new inside
          c.loop-x.invariant.done c.advance.ensures.rest;
      rest = rest-less (IsAtRest g.G.Stub.EntryStub.strand_of g.G.Stub.EntryStub.entered_of
          (g.L.Law.meaning c.args.course.now.law.now) c.args.course.now.layout.now
          c.args.turn.of_sections c.args.turn.region) x half new c.loop-x.invariant.rest;
      same = strands-on c.args.half.now half _ c.loop-x.auto.half c.loop-x.invariant.same
          (strands-set half x c.index-half-x.result new c.advance.ensures.same inside);
    }

pub returns-clause-each : goal.returns-clause-each
returns-clause-each g c = record {
  each = λ i d below. c.loop-x.invariant.done i d
      (omega (arith, below, c.loop-x.auto.half, c.loop-x-test.false));
}
