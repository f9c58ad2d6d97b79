use Rattle.envelope.proofs.Noted.{noted-good, noted-past}
use Rattle.envelope.proofs.folds.Fold.keep.Goals as goal

pub returns-then-step-self-clause-stands : goal.returns-then-step-self-clause-stands
returns-then-step-self-clause-stands c = λ map x t b p g.
    noted-good c.args.self.now c.keep_within.new.self c.args.step c.args.place _ map x (c.keep_within.ensures.kept c.args.place c.requires c.cell-cell.ensures.cell) t b g p

pub returns-else-step-self-clause-stands : goal.returns-else-step-self-clause-stands
returns-else-step-self-clause-stands c = λ map x t b p g. noted-past c.args.self.now map c.args.step c.args.place x c.if-step-self.false g p
