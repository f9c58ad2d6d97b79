use Rattle.std.proofs.Common.{◌≡◌, subst, sym, arith}
use Rattle.fronts.specs.Fronts.{Holds}
use Rattle.fronts.specs.Stretches.{count_of}
use Rattle.strands.proofs.Taking.{nearer, taken-none}
use Rattle.strands.specs.Beside.{taken_front, taken_since}
use Rattle.strands.specs.Stations.{half}
use Rattle.strands.proofs.besides.load_next.Goals as goal

pub place_beside-place-requires : goal.place_beside-place-requires
place_beside-place-requires g c =
    nearer c.args.right c.args.at (half c.args.window) 1 (count_of c.args.stretch.now)
    c.requires.inside (omega (arith, c.requires.two))

pub returns-clause-holds : goal.returns-clause-holds
returns-clause-holds g c = λ law since front points h.
    let old = c.args.stretch.now in
    let right = c.args.right in
    let at = c.args.at in
    let w = c.args.window in
    let s = c.args.start in
    let one : half w ≡ 1 = omega (arith, c.requires.two) in
    let has = nearer right at (half w) 1 (count_of old) c.requires.inside
    (omega (arith, c.requires.two)) in
    subst (λ i. Holds law (taken_since right at s i since) (taken_front right at w s i front)
    c.load_at.new.stretch) (sym one)
    (c.load_at.ensures.holds law right at since front has c.place_beside-place.ensures.place points
    (taken-none law old right at w s since front h))
