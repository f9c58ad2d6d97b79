use Rattle.std.proofs.Common.{ℕ, ◌<◌, subst}
use Rattle.regionrun.proofs.Keeping.{given-side, right-sides, taken}
use Rattle.regionrun.specs.Bodies.{HasIncoming, IsOpen}
use Rattle.regionrun.specs.Right.{has_loaded}
use Rattle.regionrun.proofs.frontiers.Frontier.load.Goals as goal

pub load-requires-clause-side : goal.load-requires-clause-side
load-requires-clause-side g c =
    given-side (g.L.Law.meaning c.args.law.now) c.requires.given.layout c.args.self.now
    c.args.side (g.B.Block.tells c.args.block.now) c.requires.given.given

pub returns-clause-right : goal.returns-clause-right
returns-clause-right g c = λ layout given.
    let law = g.L.Law.meaning c.args.law.now in
    let right = given.right in
    record {
      laid_out = right.laid_out;
      there = right.there;
      window_is = right.window_is;
      windows_are = right.windows_are;
      sides_are = right.sides_are;
      regions = right.regions;
      keeps = taken law layout c.args.self.now c.load.new.self c.args.side
          (g.B.Block.tells c.args.block.now)
          (c.layouts_are_lawful.ensures layout law.mesh right.laid_out) given
          c.load.ensures.loaded.same
          (subst (λ (w : ℕ). IsOpen law w c.args.self.now.computed c.args.self.now.body
          → HasIncoming law w c.args.self.now.computed c.args.side c.args.self.now.body
          (g.B.Block.tells c.args.block.now)
          → IsOpen law w c.args.self.now.computed c.load.new.self) c.requires.window
          (c.load.ensures.open law));
      spans = right.spans;
      steps = right.steps;
      stands = right.stands;
    }

pub returns-clause-loaded : goal.returns-clause-loaded
unfolding has_loaded
returns-clause-loaded g c = λ side here.
    let law = g.L.Law.meaning c.args.law.now in
    let ready = c.requires.given in
    c.load.ensures.loaded.loaded side
    (subst (λ (n : ℕ). side < n)
    (right-sides law ready.layout c.args.self.now.computed c.args.self.now ready.given.right)
    here)
