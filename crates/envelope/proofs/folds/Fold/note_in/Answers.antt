use Rattle.std.proofs.Common.{◌∙◌, ap, Some, rules}
use Rattle.envelope.specs.Notings.{taken, is_bad_noting}
use Rattle.envelope.specs.Notings.Noting.{OfPoint}
use Rattle.envelope.proofs.Noted.{noted-good}
use Rattle.envelope.proofs.folds.Fold.note_in.Goals as goal

pub returns-in-Good-clause-stands : goal.returns-in-Good-clause-stands
returns-in-Good-clause-stands c = λ map p g.
    noted-good c.args.self.now c.keep_within.new.self c.args.step c.args.place _ map (OfPoint c.args.point.now) (c.keep_within.ensures.kept c.args.place c.requires.place c.requires.cell)
    (ap (λ x. taken (Some (OfPoint x))) c.in-Good.is ∙ search rules) (ap (λ x. is_bad_noting (Some (OfPoint x))) c.in-Good.is) g p

pub returns-in-Bad-clause-stands : goal.returns-in-Bad-clause-stands
returns-in-Bad-clause-stands c = λ map p g. c.fail.ensures.stands map (OfPoint c.args.point.now) (ap (λ x. taken (Some (OfPoint x))) c.in-Bad.is) (ap (λ x. is_bad_noting (Some (OfPoint x))) c.in-Bad.is) p g
