use Rattle.std.proofs.Common.{arith, to_z-of_z}
use Rattle.pumps.proofs.Scales.{points_rise, points_fall}
use Rattle.pumps.proofs.flows.on_segment.Goals as goal

pub crossing-requires-clause-rising : goal.crossing-requires-clause-rising
crossing-requires-clause-rising c =
    let e = c.point_at.ensures.value in
    let f = c.point_at-2.ensures.value in
    grind (arith, to_z-of_z, e, f, points_rise c.args.speed c.args.from c.args.to c.requires.speed_in c.requires.from_in.0.low c.requires.rising)

pub crossing-requires-clause-falling : goal.crossing-requires-clause-falling
crossing-requires-clause-falling c =
    let e = c.point_at.ensures.value in
    let f = c.point_at-2.ensures.value in
    grind (arith, to_z-of_z, e, f, points_fall c.args.speed c.args.from c.args.to c.requires.speed_in c.requires.to_in.1.low c.requires.falling)

pub returns : goal.returns
returns c =
    grind (arith, to_z-of_z, c.crossing.ensures, c.point_at.ensures.value, c.point_at-2.ensures.value)
