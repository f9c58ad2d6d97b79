use Rattle.std.proofs.Common.{arith, to_z-of_z, pos, ◌≤ℤ◌}
use Rattle.std.proofs.lemmas.Int.{ints}
use Rattle.vessels.proofs.tanks.tank_head.Goals as goal

pub weight_in_step-requires-clause-low : goal.weight_in_step-requires-clause-low
weight_in_step-requires-clause-low c =
    let sums = c.weighted_sums-heads in
    let low : pos 0 ≤ℤ sums.result.1 = omega (arith, ints) in
    grind (arith, to_z-of_z, low)
