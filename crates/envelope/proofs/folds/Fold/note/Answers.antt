use Rattle.std.proofs.Common.{◌∙◌, ap, Some, rules}
use Rattle.envelope.specs.Notings.{taken, is_bad_noting}
use Rattle.envelope.specs.Notings.Noting.{OfPoint}
use Rattle.envelope.proofs.Told.{held, tells}
use Rattle.envelope.proofs.folds.Fold.note.Goals as goal

pub returns-in-Good-clause-stands : goal.returns-in-Good-clause-stands
returns-in-Good-clause-stands c = λ map p g.
    tells (c.keep.ensures.stands map (OfPoint c.args.point.now) (ap (λ x. taken (Some (OfPoint x))) c.in-Good.is ∙ search rules) (ap (λ x. is_bad_noting (Some (OfPoint x))) c.in-Good.is) (held p) g)

pub returns-in-Bad-clause-stands : goal.returns-in-Bad-clause-stands
returns-in-Bad-clause-stands c = λ map p g.
    tells (c.fail.ensures.stands map (OfPoint c.args.point.now) (ap (λ x. taken (Some (OfPoint x))) c.in-Bad.is) (ap (λ x. is_bad_noting (Some (OfPoint x))) c.in-Bad.is) (held p) g)
