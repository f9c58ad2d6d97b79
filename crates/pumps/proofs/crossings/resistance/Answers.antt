use Rattle.std.proofs.Common.{arith, to_z-of_z, ◌≤◌, unsigned_abs, pos, ◌≤ℤ◌}
use Rattle.std.proofs.lemmas.Int.{ints}
use Rattle.case_model.specs.Limits.{IsWithin}
use Rattle.pumps.proofs.Scales.{product_fits, product_below, product_some}
use Rattle.pumps.proofs.crossings.resistance.Goals as goal

pub returns-clause-low : goal.returns-clause-low
returns-clause-low c =
    let b = c.requires.b_in in
    let w = c.requires.width_in in
    let size : unsigned_abs c.args.b ≤ 30000000000000 = omega (arith, ints) in
    let some : pos 1 ≤ℤ c.args.b = omega (arith, ints) in
    let width : IsWithin (pos 0) (pos 2000000000000) c.args.width = record { low = omega (arith, ints); high = w.high } in
    let f = product_fits c.args.b c.args.width size width in
    grind (arith, to_z-of_z, product_some c.args.b c.args.width some w.low)

pub returns-clause-size : goal.returns-clause-size
returns-clause-size c =
    let b = c.requires.b_in in
    let w = c.requires.width_in in
    let size : unsigned_abs c.args.b ≤ 30000000000000 = omega (arith, ints) in
    let width : IsWithin (pos 0) (pos 2000000000000) c.args.width = record { low = omega (arith, ints); high = w.high } in
    let f = product_fits c.args.b c.args.width size width in
    grind (arith, to_z-of_z, product_below c.args.b c.args.width size width)
