use Rattle.std.proofs.Common.{arith, to_z-of_z, ◌*◌, ◌<◌, ◌≤◌, ◌+ℤ◌, unsigned_abs}
use Rattle.std.proofs.lemmas.Int.{ints}
use Rattle.charline.proofs.Sizes.{mean_below}
use Rattle.charline.proofs.interior.mean.Goals as goal
use Rattle.fixed_num.proofs.Fits.{fits}

pub overflow_cast-result : goal.overflow_cast-result
overflow_cast-result c =
    let some : 0 < unsigned_abs c.args.weight = omega (arith, ints) in
    let most : unsigned_abs (c.args.one +ℤ c.args.two) ≤ 10000000000000 * unsigned_abs c.args.weight = omega (arith, ints) in
    grind (arith, to_z-of_z, fits c.rnd.result, mean_below (unsigned_abs c.rnd.result) (unsigned_abs c.args.weight) (unsigned_abs (c.args.one +ℤ c.args.two)) 10000000000000 some most)

pub returns : goal.returns
returns c =
    let some : 0 < unsigned_abs c.args.weight = omega (arith, ints) in
    let most : unsigned_abs (c.args.one +ℤ c.args.two) ≤ 10000000000000 * unsigned_abs c.args.weight = omega (arith, ints) in
    grind (arith, to_z-of_z, fits c.rnd.result, mean_below (unsigned_abs c.rnd.result) (unsigned_abs c.args.weight) (unsigned_abs (c.args.one +ℤ c.args.two)) 10000000000000 some most)
