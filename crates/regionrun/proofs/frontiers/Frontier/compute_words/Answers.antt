use Rattle.std.proofs.Common.{◌≡◌, ℕ, ◌-◌, arith, subst, sym}
use Rattle.regionrun.specs.Bodies.{IsComputed}
use Rattle.regionrun.specs.Handed.{IsBlock}
use Rattle.regionrun.proofs.frontiers.Frontier.compute_words.Goals as goal

pub returns-then-self-clause-block : goal.returns-then-self-clause-block
returns-then-self-clause-block g c = λ layout right few.
    let law = g.L.Law.meaning c.args.law.now in
    let new = c.compute.new.self in
    let last : new.computed - 1 ≡ c.args.self.now.computed = omega (arith, c.compute.ensures.more)
    in
    subst (λ (y : ℕ). IsBlock law layout y c.args.self.now.computed c.write_words.new.out)
    c.compute.ensures.same.number_is
    (subst (λ (b : ℕ). IsBlock law layout new.number b c.write_words.new.out) last
    (c.write_words.ensures.block law layout (c.compute.ensures.right layout right)
    (subst (λ (b : ℕ). IsComputed law new.window b new.body) (sym last)
    c.compute.ensures.computed)))
