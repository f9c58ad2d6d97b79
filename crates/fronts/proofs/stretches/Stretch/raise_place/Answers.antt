use Rattle.std.proofs.Common.{◌∙◌, ◌+◌, ◌-◌, ap}
use Rattle.fronts.specs.Stretches.{is_even, kept_in}
use Rattle.fronts.proofs.Stepping.{stepped-one}
use Rattle.fronts.proofs.stretches.Stretch.raise_place.Goals as goal

pub returns : goal.returns
returns g c =
    let law = g.L.Law.meaning c.args.law.now in
    let o = c.args.self.now in
    let at = law.inner o.pipe (o.first + c.args.place) in
    stepped-one law c.args.step c.args.place c.inner-next.result o c.put_of.new.self c.requires.after_first c.requires.before_last
    (c.inner-next.ensures
    ∙ ap (λ p. at p c.point_of-own.result c.point_of-right.result) c.point_of-left.ensures.point
    ∙ ap (λ p. at (kept_in o (is_even c.args.step) (c.args.place - 1)) p c.point_of-right.result) c.point_of-own.ensures.point
    ∙ ap (at (kept_in o (is_even c.args.step) (c.args.place - 1)) (kept_in o (is_even c.args.step) c.args.place)) c.point_of-right.ensures.point)
    c.put_of.ensures
