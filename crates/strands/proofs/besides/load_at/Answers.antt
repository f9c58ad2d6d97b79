use Rattle.std.proofs.Common.{◌+◌, ◌-◌, ◌*◌, ◌≤◌, ◌<◌, arith}
use Rattle.fronts.specs.Pairs.{first_of, second_of}
use Rattle.fronts.specs.Stretches.{count_of}
use Rattle.strands.proofs.Loading.{with}
use Rattle.strands.proofs.Taking.{IsNear, outer-first, outer-second, puts-new, puts-one, puts-pair}
use Rattle.strands.specs.Beside.{taken_front, taken_since}
use Rattle.strands.proofs.besides.load_at.Goals as goal

pub returns-then-number-window-clause-holds : goal.returns-then-number-window-clause-holds
returns-then-number-window-clause-holds g c = λ law right at since front has e block h.
    let w = c.args.window in
    let s = c.args.start in
    let d = c.args.distance in
    let tells = g.B.Block.tells c.args.block.now in
    let place = c.args.place in
    let old = c.args.stretch.now in
    let pair = c.pair-pair.result in
    let is : IsNear right at w d (count_of old) place =
    record { some = c.requires.some; near = c.requires.near; has = has; place_is = e } in
    let near : 2 * (d - 1) + 1 < w = c.if-number-window.true in
    let t : 2 * d - 1 < w = omega (arith, near, c.requires.some) in
    let one =
    outer-first law old right at w s d (count_of old) place tells (first_of pair) is block c.pair-pair.ensures.first in
    let two =
    outer-second law old right at w s d (count_of old) place tells (second_of pair) is near block c.pair-pair.ensures.second in
    let sooner = with place (s + (d - 1)) (taken_since right at s (d - 1) since) in
    let later = with place (s + (d - 1)) (taken_front right at w s (d - 1) front) in
    c.put_pair.ensures.holds law (taken_since right at s (d - 1) since)
    (taken_front right at w s (d - 1) front) sooner later (taken_since right at s d since)
    (taken_front right at w s d front)
    (puts-new place (s + (d - 1)) (count_of old) (taken_since right at s (d - 1) since)
    (taken_front right at w s (d - 1) front)) one
    (puts-pair right at w s d (count_of old) place since front is t) two h

pub returns-else-number-window-clause-holds : goal.returns-else-number-window-clause-holds
returns-else-number-window-clause-holds g c = λ law right at since front has e block h.
    let w = c.args.window in
    let s = c.args.start in
    let d = c.args.distance in
    let tells = g.B.Block.tells c.args.block.now in
    let place = c.args.place in
    let old = c.args.stretch.now in
    let is : IsNear right at w d (count_of old) place =
    record { some = c.requires.some; near = c.requires.near; has = has; place_is = e } in
    let far : w ≤ 2 * (d - 1) + 1 = c.if-number-window.false in
    let t : w ≤ 2 * d - 1 = omega (arith, far, c.requires.some) in
    let one =
    outer-first law old right at w s d (count_of old) place tells c.point-last.result is block c.point-last.ensures.point in
    c.put.ensures.holds law (taken_since right at s (d - 1) since)
    (taken_front right at w s (d - 1) front)
    (taken_since right at s d since) (taken_front right at w s d front)
    (puts-one right at w s d (count_of old) place since front is t) one h
