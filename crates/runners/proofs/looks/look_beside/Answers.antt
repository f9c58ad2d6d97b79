use Rattle.std.proofs.Common.{◌<◌, arith, length}
use Rattle.runners.proofs.Looking.{none-seen, one-seen, reader-set}
use Rattle.runners.proofs.looks.look_beside.Goals as goal

pub loop-side-init : goal.loop-side-init
loop-side-init g c = record { seen = none-seen c.args.readers.now; at = λ n all. all }

pub returns-in-Some-clause-readers : goal.returns-in-Some-clause-readers
returns-in-Some-clause-readers g c = λ n all.
    let inside : c.loop-side.side < length c.loop-side.readers = omega arith in
    reader-set (g.L.Law.meaning c.args.tag.now.law.now) c.args.tag.now.layout.now
    c.args.tag.now.histories.now c.args.number n c.loop-side.side c.loop-side.readers
    c.index-readers-side.result c.look_at.new.reader inside c.look_at.ensures.reader
    (c.loop-side.invariant.at n all)

pub loop-side-preserved : goal.loop-side-preserved
loop-side-preserved g c =
    let inside : c.loop-side.side < length c.loop-side.readers = omega arith in
    record {
      seen = one-seen c.loop-side.side c.args.readers.now c.loop-side.readers
          c.index-readers-side.result c.look_at.new.reader inside c.loop-side.invariant.seen
          c.in_default.ensures.answer;
      at = λ n all.
          reader-set (g.L.Law.meaning c.args.tag.now.law.now) c.args.tag.now.layout.now
          c.args.tag.now.histories.now c.args.number n c.loop-side.side c.loop-side.readers
          c.index-readers-side.result c.look_at.new.reader inside c.in_default.ensures.reader
          (c.loop-side.invariant.at n all);
    }
