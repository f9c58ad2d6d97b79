use Rattle.std.proofs.Common.{arith, to_z-of_z, pos, unsigned_abs, ◌≤◌}
use Rattle.std.proofs.lemmas.Int.{ints}
use Rattle.fixed_num.specs.Rounding.{rnd}
use Rattle.fixed_num.proofs.Fits.{fits}
use Rattle.charline.proofs.Singles.{inverse_of}
use Rattle.charline.proofs.runs.inverse.Goals as goal

pub overflow_cast-result : goal.overflow_cast-result
overflow_cast-result c =
    let i = inverse_of c.args.b c.requires.low c.requires.high in
    let s : unsigned_abs (rnd (pos 10000000000000000000000) (pos c.args.b)) ≤ 1000000000000000000 = omega (arith, ints, i.low, i.high) in
    grind (arith, to_z-of_z, fits (rnd (pos 10000000000000000000000) (pos c.args.b)) s)

pub returns : goal.returns
returns c =
    let i = inverse_of c.args.b c.requires.low c.requires.high in
    let s : unsigned_abs (rnd (pos 10000000000000000000000) (pos c.args.b)) ≤ 1000000000000000000 = omega (arith, ints, i.low, i.high) in
    grind (arith, to_z-of_z, fits (rnd (pos 10000000000000000000000) (pos c.args.b)) s)
