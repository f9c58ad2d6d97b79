use Rattle.std.proofs.Common.{arith, to_z-of_z, ◌≤◌, unsigned_abs}
use Rattle.std.proofs.lemmas.Int.{ints}
use Rattle.vessels.proofs.Sizes.{step_fits, step_below, step_sign}
use Rattle.vessels.proofs.tanks.weight_in_step.Goals as goal

pub overflow_mul-result : goal.overflow_mul-result
overflow_mul-result c =
    let h : unsigned_abs c.args.weights ≤ 1600000000000000000 = omega (arith, ints) in
    grind (arith, to_z-of_z, step_fits c.args.dt c.args.weights c.requires.dt_in.low c.requires.dt_in.high)

pub returns-clause-sign : goal.returns-clause-sign
returns-clause-sign c =
    let h : unsigned_abs c.args.weights ≤ 1600000000000000000 = omega (arith, ints) in
    let f = step_fits c.args.dt c.args.weights c.requires.dt_in.low c.requires.dt_in.high (omega arith) in
    grind (arith, to_z-of_z, step_sign c.args.dt c.args.weights c.requires.dt_in.low c.requires.low)

pub returns-clause-size : goal.returns-clause-size
returns-clause-size c =
    let h : unsigned_abs c.args.weights ≤ 1600000000000000000 = omega (arith, ints) in
    let f = step_fits c.args.dt c.args.weights c.requires.dt_in.low c.requires.dt_in.high (omega arith) in
    grind (arith, to_z-of_z, step_below c.args.dt c.args.weights 1600000000000000000 c.requires.dt_in.low c.requires.dt_in.high h)
