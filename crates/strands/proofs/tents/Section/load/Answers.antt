use Rattle.std.proofs.Common.{◌∙◌, sym}
use Rattle.strands.proofs.Feeding.{section-loaded}
use Rattle.strands.proofs.tents.Section.load.Goals as goal

pub returns-then-not-has-clause-at : goal.returns-then-not-has-clause-at
returns-then-not-has-clause-at g c = λ law at points.
    section-loaded law c.args.left c.args.window c.args.start c.args.self.now
    c.load_side.new.stretch
    (sym c.has.ensures ∙ c.if-not-has.true) c.load_side.ensures.same at
    (λ bare. c.load_side.ensures.holds law _ points bare at.holds)
