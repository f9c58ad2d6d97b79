use Rattle.std.proofs.Common.{◌≡◌, ℕ, arith, length, subst}
use Rattle.histories.specs.Dealing.{AreMade}
use Rattle.histories.proofs.Dealt.{made-more}
use Rattle.histories.proofs.opening.make_all.Goals as goal

pub loop-strand-preserved : goal.loop-strand-preserved
loop-strand-preserved g c =
    let opening = c.args.opening.now in
    let made = c.in_ok-history in
    made-more (g.L.Law.meaning opening.law.now) opening.layout.now opening.slots
    c.loop-strand.strand c.loop-strand.histories.items c.push.new.self.items
    c.loop-strand.writers.items c.push-in-loop-strand.new.self.items c.loop-strand.dealt.items
    c.push-in-loop-strand-2.new.self.items made.history made.writer made.readers c.loop-strand.invariant
    c.in_ok-push.ensures.items c.in_ok-push-2.ensures.items c.in_ok-push-3.ensures.items
    made.ensures.sizes made.ensures.writer made.ensures.readers

pub returns : goal.returns
returns g c =
    let opening = c.args.opening.now in
    let count : c.loop-strand.strand ≡ length opening.layout.now.shapes =
    omega (
      arith,
      c.loop-strand-test.false,
      c.loop-strand.auto.strand-end,
      c.strand_count-count.ensures,
    ) in
    subst (λ (n : ℕ). AreMade (g.L.Law.meaning opening.law.now) opening.layout.now opening.slots n
    c.loop-strand.histories.items c.loop-strand.writers.items c.loop-strand.dealt.items) count
    c.loop-strand.invariant
