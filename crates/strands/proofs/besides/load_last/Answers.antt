use Rattle.std.proofs.Common.{◌≡◌, ◌+◌, ◌-◌, ◌/◌, subst, sym, arith}
use Rattle.fronts.specs.Fronts.{Holds}
use Rattle.fronts.specs.Stretches.{count_of}
use Rattle.strands.specs.Beside.{HasBeside, taken_front, taken_since}
use Rattle.strands.specs.Stations.{half}
use Rattle.strands.proofs.besides.load_last.Goals as goal

pub returns-then-window-eq1-clause-holds : goal.returns-then-window-eq1-clause-holds
returns-then-window-eq1-clause-holds g c = λ law since front points h.
    let old = c.args.stretch.now in
    let right = c.args.right in
    let at = c.args.at in
    let w = c.args.window in
    let s = c.args.start in
    let e : w / 2 + 1 ≡ half w = omega (arith, c.if-window-eq1.true) in
    let d : w / 2 ≡ w / 2 + 1 - 1 = omega arith in
    subst (λ i. Holds law (taken_since right at s i since) (taken_front right at w s i front)
    c.load_at.new.stretch) e
    (c.load_at.ensures.holds law right at since front
    (subst (λ i. HasBeside right at i (count_of old)) (sym e) c.requires.inside)
    c.place_beside-place.ensures.place points
    (subst (λ i. Holds law (taken_since right at s i since) (taken_front right at w s i front) old)
    d h))
