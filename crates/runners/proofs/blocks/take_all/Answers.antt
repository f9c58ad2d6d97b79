use Rattle.std.proofs.Common.{◌≡◌, ℕ, ◌<◌, ◌∙◌, arith, length, refl, slice_index_or, subst}
use Rattle.runners.specs.Blocks.{ArePassed}
use Rattle.regionrun.proofs.Turning.{same-itself, same-on}
use Rattle.runners.proofs.Passing.{all-passed, all-sides, none-passed, on-passed, one-loaded}
use Rattle.runners.proofs.Passing.{one-passed, same-strand, to-take}
use Rattle.runners.proofs.blocks.take_all.Goals as goal

pub loop-side-init : goal.loop-side-init
loop-side-init g c = record {
  right = c.requires.right;
  same = same-itself c.args.strand.now.frontier;
  computed = refl;
  stub = refl;
  fed = λ k below. absurd (omega arith);
  passed = none-passed c.args.readers.now;
  at = λ b j d below. absurd (omega arith);
}

pub take_block-requires-clause-reader : goal.take_block-requires-clause-reader
take_block-requires-clause-reader g c κs within =
    let inside : c.loop-side.side < length c.loop-side.readers = omega arith in
    to-take (g.L.Law.meaning c.args.tag.now.law.now) c.args.tag.now.layout.now
    c.args.tag.now.histories.now c.args.strand.now.frontier c.loop-side.strand.frontier
    c.loop-side.side c.args.readers.now c.loop-side.readers c.index-readers-side.result
    c.requires.readers c.loop-side.invariant.same c.loop-side.invariant.computed
    c.loop-side.invariant.passed inside

pub loop-side-preserved : goal.loop-side-preserved
loop-side-preserved g c =
    let law = g.L.Law.meaning c.args.tag.now.law.now in
    let layout = c.args.tag.now.layout.now in
    let inv = c.loop-side.invariant in
    let done = c.take_block.ensures in
    let inside : c.loop-side.side < length c.loop-side.readers = omega arith in
    record {
      right = done.right;
      same = same-on c.args.strand.now.frontier c.loop-side.strand.frontier
          c.take_block.new.strand.frontier inv.same done.same.0;
      computed = done.same.1 ∙ inv.computed;
      stub = done.stub ∙ inv.stub;
      fed = one-loaded law layout c.loop-side.strand.frontier c.take_block.new.strand.frontier
          c.loop-side.side c.args.readers.now c.loop-side.readers c.args.tag.now.histories.now
          c.args.strand.now.frontier inv.right c.requires.readers inv.same inv.passed inside
          done.loaded inv.fed;
      passed = one-passed c.loop-side.side c.args.readers.now c.loop-side.readers
          c.index-readers-side.result c.take_block.new.reader inside inv.passed done.passed;
      at = on-passed law layout c.args.tag.now.histories.now c.args.strand.now.frontier.number
          c.loop-side.side c.args.readers.now c.loop-side.readers c.index-readers-side.result
          c.take_block.new.reader inside inv.passed inv.at
          (λ b. same-strand law layout c.args.tag.now.histories.now
          c.loop-side.strand.frontier.number c.args.strand.now.frontier.number c.loop-side.side b
          (slice_index_or c.loop-side.readers c.loop-side.side c.index-readers-side.result)
          c.take_block.new.reader inv.same.number_is (done.reader b));
    }

pub returns-clause-fed : goal.returns-clause-fed
returns-clause-fed g c = λ b k need below.
    let law = g.L.Law.meaning c.args.tag.now.law.now in
    let layout = c.args.tag.now.layout.now in
    let inv = c.loop-side.invariant in
    inv.fed k (all-sides law layout c.args.strand.now.frontier c.loop-side.strand.frontier
    c.loop-side.side k c.args.readers.now c.args.tag.now.histories.now inv.right
    c.requires.readers inv.same c.loop-side-test.false below)

pub returns-clause-readers : goal.returns-clause-readers
returns-clause-readers g c = λ b at.
    let whole : c.loop-side.side ≡ length c.args.readers.now = omega arith in
    all-passed (g.L.Law.meaning c.args.tag.now.law.now) c.args.tag.now.layout.now
    c.args.tag.now.histories.now c.args.strand.now.frontier.number b c.loop-side.side
    c.args.readers.now c.loop-side.readers c.loop-side.invariant.passed whole
    c.loop-side.invariant.at at

pub returns-clause-passed : goal.returns-clause-passed
returns-clause-passed g c =
    let whole : c.loop-side.side ≡ length c.args.readers.now = omega arith in
    subst (λ (n : ℕ). ArePassed n c.args.readers.now c.loop-side.readers) whole
    c.loop-side.invariant.passed
