use Rattle.std.proofs.Common.{◌≤◌, ◌*◌, ◌*ℤ◌, unsigned_abs, arith}
use Rattle.std.proofs.lemmas.Int.{ints, unsigned_abs-mul}
use Rattle.std.proofs.lemmas.Nat.{mul-le}
use Rattle.fixed_num.proofs.Fits.{wide_product}
use Rattle.charline.proofs.cavities.product.Goals as goal

pub returns-clause-value : goal.returns-clause-value
returns-clause-value c = wide_product c.args.x c.args.y c.ranges.x c.ranges.y

pub returns-clause-size : goal.returns-clause-size
returns-clause-size c =
    let y : unsigned_abs c.args.y ≤ 10000000000000000000 = grind (arith, ints, c.ranges.y) in
    let s : unsigned_abs (c.args.x *ℤ c.args.y) ≤ 10 * 10000000000000000000 = rw (unsigned_abs-mul c.args.x c.args.y) (mul-le (unsigned_abs c.args.x) (unsigned_abs c.args.y) 10 10000000000000000000 c.requires.x_in y) in
    rw (wide_product c.args.x c.args.y c.ranges.x c.ranges.y) (omega arith)
