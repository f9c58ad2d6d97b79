use Rattle.std.proofs.Common.{◌≡◌, ℕ, arith, length, subst}
use Rattle.histories.specs.Dealing.{AreTaken}
use Rattle.histories.proofs.Dealt.{strand-more}
use Rattle.histories.proofs.opening.take_all.Goals as goal

pub loop-strand-preserved : goal.loop-strand-preserved
loop-strand-preserved g c = record {
  readers = strand-more (g.L.Law.meaning c.args.opening.now.law.now) c.args.opening.now.layout.now
      c.args.histories.now c.loop-strand.strand c.loop-strand.readers.items c.push.new.self.items
      c.in_ok-own.own c.loop-strand.invariant.readers c.in_ok-push.ensures.items
      c.in_ok-own.ensures.readers;
  waiting = c.in_ok-own.ensures.waiting;
}

pub returns : goal.returns
returns g c =
    let opening = c.args.opening.now in
    let count : c.loop-strand.strand ≡ length opening.layout.now.shapes =
    omega (
      arith,
      c.loop-strand-test.false,
      c.loop-strand.auto.strand-end,
      c.strand_count-count.ensures,
    ) in
    subst (λ (n : ℕ). AreTaken (g.L.Law.meaning opening.law.now) opening.layout.now
    c.args.histories.now n c.loop-strand.readers.items) count c.loop-strand.invariant.readers
