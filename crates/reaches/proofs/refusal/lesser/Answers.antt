use Rattle.reaches.proofs.Least.{least_as}
use Rattle.reaches.proofs.refusal.lesser.Goals as goal

pub returns-in-Some-Some : goal.returns-in-Some-Some
returns-in-Some-Some c = λ some others f g.
    c.lesser_of.ensures some others (least_as some c.args.one c.in-Some-Some.one c.in-Some-Some.is-0 f) (least_as others c.args.other c.in-Some-Some.other c.in-Some-Some.is-1 g)
