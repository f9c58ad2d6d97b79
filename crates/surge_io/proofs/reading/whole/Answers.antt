use Rattle.std.proofs.Common.{◌≡◌, ◌≤◌, length, inl, inr, rules, arith, ap, ◌∙◌}
use Rattle.std.proofs.Common.{take, ◌<◌, ◌++◌}
use Rattle.std.proofs.lemmas.List.{length-take, take-append-le}
use Rattle.surge_io.proofs.Taking.{HasRead-more, HasRead-still, one_more, met_end}
use Rattle.surge_io.proofs.reading.whole.Goals as goal

pub returns-in_err-count-clause-failed : goal.returns-in_err-count-clause-failed
returns-in_err-count-clause-failed g c = λ _. (
  c.loop-piece.bytes.items,
  omega (arith, c.loop-piece-test.true),
  (c.loop-piece.src, c.loop-piece.invariant.gave, (_, c.in_err-count.ensures.gave)),
  HasRead-still (g.S.Source.left c.args.src.now) (g.S.Source.left c.loop-piece.src) (g.S.Source.left c.read.new.self) c.loop-piece.bytes.items c.loop-piece.invariant.read c.in_err-count.ensures.unchanged,
)

pub returns-then-count-eq0-clause-taken : goal.returns-then-count-eq0-clause-taken
returns-then-count-eq0-clause-taken g c =
    let few : length c.loop-piece.bytes.items ≤ c.args.limit = omega (arith, c.loop-piece-test.true) in
    let whole : length c.loop-piece.piece ≡ 4096 = search rules in
    let room : 0 < length (take c.min-wanted.result c.loop-piece.piece) = omega (arith, length-take c.min-wanted.result c.loop-piece.piece, c.min-wanted.ensures, whole, few) in
    inl (few, met_end g.S.Source.gives c.args.src.now c.loop-piece.src c.read.new.self c.loop-piece.bytes.items c.read.new.into (length (take c.min-wanted.result c.loop-piece.piece)) c.in_ok-count.count c.loop-piece.invariant.gave c.in_ok-count.ensures.gave room c.if-count-eq0.true)

pub returns-in_err-extend_from_slice-clause-starved : goal.returns-in_err-extend_from_slice-clause-starved
returns-in_err-extend_from_slice-clause-starved g c = λ _.
    let more = one_more g.S.Source.gives c.args.src.now c.loop-piece.src c.read.new.self c.loop-piece.bytes.items c.loop-piece.piece c.read.new.into c.min-wanted.result c.args.limit c.in_ok-count.count
    c.loop-piece.invariant.gave (omega (arith, c.loop-piece-test.true)) (omega (arith, c.min-wanted.ensures)) c.read.auto.into c.in_ok-count.ensures.count c.if-count-eq0.false c.in_ok-count.ensures.gave in (
      c.loop-piece.bytes.items ++ take c.in_ok-count.count c.read.new.into,
      more.0,
      more.1,
      HasRead-more (g.S.Source.left c.args.src.now) (g.S.Source.left c.loop-piece.src) (g.S.Source.left c.read.new.self) c.loop-piece.bytes.items c.read.new.into c.in_ok-count.count c.loop-piece.invariant.read c.in_ok-count.ensures.bytes,
    )

pub returns-clause-taken : goal.returns-clause-taken
returns-clause-taken g c = inr (omega (arith, c.loop-piece-test.false, c.loop-piece.invariant.few), c.loop-piece.invariant.gave)

pub loop-piece-preserved : goal.loop-piece-preserved
loop-piece-preserved g c =
    let more = one_more g.S.Source.gives c.args.src.now c.loop-piece.src c.read.new.self c.loop-piece.bytes.items c.loop-piece.piece c.read.new.into c.min-wanted.result c.args.limit c.in_ok-count.count
    c.loop-piece.invariant.gave (omega (arith, c.loop-piece-test.true)) (omega (arith, c.min-wanted.ensures)) c.read.auto.into c.in_ok-count.ensures.count c.if-count-eq0.false c.in_ok-count.ensures.gave in
    let same : c.extend_from_slice.new.self.items ≡ c.loop-piece.bytes.items ++ take c.in_ok-count.count c.read.new.into =
    c.in_ok-extend_from_slice.ensures.items ∙ ap (λ l. c.loop-piece.bytes.items ++ l) (take-append-le c.in_ok-count.count c.read.new.into _ (omega (arith, c.read.auto.into, c.in_ok-count.ensures.count))) in
    record {
      few = rw same more.0;
      gave = rw same more.1;
      read = rw same (HasRead-more (g.S.Source.left c.args.src.now) (g.S.Source.left c.loop-piece.src) (g.S.Source.left c.read.new.self) c.loop-piece.bytes.items c.read.new.into c.in_ok-count.count c.loop-piece.invariant.read c.in_ok-count.ensures.bytes);
      later = omega (arith, c.loop-piece.invariant.later, c.read.ensures.later);
    }
