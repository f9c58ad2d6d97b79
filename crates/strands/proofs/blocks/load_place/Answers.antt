use Rattle.std.proofs.Common.{◌+◌, ◌-◌, ◌*◌, ◌≤◌, ◌<◌, ◌≡◌, ◌∙◌, ap, arith, subst}
use Rattle.fronts.specs.Fronts.{Puts, ever, spot}
use Rattle.fronts.specs.Pairs.{first_of, second_of}
use Rattle.fronts.specs.Stretches.{count_of}
use Rattle.strands.proofs.Loading.{IsAt, point-alone, point-first, point-second, puts-alone, puts-earlier, puts-later, with}
use Rattle.strands.specs.Blocks.{loading}
use Rattle.strands.proofs.blocks.load_place.Goals as goal

pub returns-then-distance-window-clause-holds : goal.returns-then-distance-window-clause-holds
returns-then-distance-window-clause-holds g c = λ law left n front size long at has bare h.
    let w = c.args.window in
    let s = c.args.start in
    let d = c.args.distance in
    let tells = g.B.Block.tells c.args.block.now in
    let place = c.args.place in
    let old = c.args.stretch.now in
    let pair = c.pair-pair.result in
    let is : IsAt left n w s d place front = record { near = c.requires.near; long = long; place_is = at; bare = bare } in
    let t : 2 * d + 1 < w = c.if-distance-window.true in
    let one = point-first law old left n w s d place tells (first_of pair) size t at has c.pair-pair.ensures.first in
    let two = point-second law old left n w s d place tells (second_of pair) size t at has c.pair-pair.ensures.second in
    let step = s + (w - d) - 1 in
    let next : s + (w - d) ≡ step + 1 = omega (arith, t) in
    let front' = loading left n w s d front in
    c.put_pair.ensures.holds law ever front' (with place step ever) (with place step front') ever (loading left n w s (d + 1) front)
    (puts-earlier place step (count_of old) front') one
    (subst (λ z. Puts z place (count_of old) (with place step ever) (with place step front') ever (loading left n w s (d + 1) front)) next
    (puts-later left n w s d place (count_of old) front is size))
    (two ∙ ap (λ z. spot law old z place) next) h

pub returns-else-distance-window-clause-holds : goal.returns-else-distance-window-clause-holds
returns-else-distance-window-clause-holds g c = λ law left n front size long at has bare h.
    let w = c.args.window in
    let s = c.args.start in
    let d = c.args.distance in
    let tells = g.B.Block.tells c.args.block.now in
    let place = c.args.place in
    let old = c.args.stretch.now in
    let is : IsAt left n w s d place front = record { near = c.requires.near; long = long; place_is = at; bare = bare } in
    let t : w ≤ 2 * d + 1 = c.if-distance-window.false in
    let one = point-alone law old left n w s d place tells c.point-last.result size c.requires.near t at has c.point-last.ensures.point in
    c.put.ensures.holds law ever (loading left n w s d front) ever (loading left n w s (d + 1) front)
    (puts-alone left n w s d place (count_of old) front is t size) one h
