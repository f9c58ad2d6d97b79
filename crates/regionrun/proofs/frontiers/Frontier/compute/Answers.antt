use Rattle.std.proofs.Common.{ℕ, ◌+◌, ◌<◌, subst, sym}
use Rattle.regionrun.specs.Bodies.{IsComputed}
use Rattle.regionrun.specs.Right.{IsRightAt, has_loaded}
use Rattle.regionrun.proofs.frontiers.Frontier.compute.Goals as goal

pub returns-clause-right : goal.returns-clause-right
returns-clause-right g c = λ layout right.
    let law = g.L.Law.meaning c.args.law.now in
    let at : IsRightAt law layout (c.advance.new.self.computed + 1) c.advance.new.self =
    subst (λ (k : ℕ). IsRightAt law layout (k + 1) c.advance.new.self)
    (sym c.advance.ensures.same.1) (c.advance.ensures.right layout right) in
    record {
      laid_out = at.laid_out;
      there = at.there;
      window_is = at.window_is;
      windows_are = at.windows_are;
      sides_are = at.sides_are;
      regions = at.regions;
      keeps = at.keeps;
      spans = at.spans;
      steps = at.steps;
      stands = at.stands;
    }

pub returns-clause-computed : goal.returns-clause-computed
returns-clause-computed g c =
    subst (λ (k : ℕ). IsComputed (g.L.Law.meaning c.args.law.now) c.advance.new.self.window k
    c.advance.new.self.body) c.advance.ensures.same.1 c.advance.ensures.computed

pub returns-clause-bare : goal.returns-clause-bare
unfolding has_loaded
returns-clause-bare g c = λ side here.
    c.advance.ensures.bare side (subst (λ (n : ℕ). side < n) c.advance.ensures.sides here)
