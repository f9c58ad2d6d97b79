use Rattle.std.proofs.Common.{◌≤◌, unsigned_abs, arith, to_z-of_z}
use Rattle.std.proofs.lemmas.Int.{ints}
use Rattle.reaches.proofs.Sizes.{share_below, share_fits}
use Rattle.reaches.proofs.elevations.share.Goals as goal
use Rattle.fixed_num.proofs.Fits.{fits}

pub overflow_cast-result : goal.overflow_cast-result
overflow_cast-result c =
    let k : unsigned_abs c.args.place ≤ 4294967295 = omega (arith, ints) in
    let f = share_fits c.args.difference c.args.place c.requires.difference_in k in
    grind (arith, to_z-of_z, fits c.rnd.result, share_below c.args.difference c.args.place c.args.reaches c.rnd.result c.requires.on_pipe c.requires.some)

pub returns-clause-value : goal.returns-clause-value
returns-clause-value c =
    let k : unsigned_abs c.args.place ≤ 4294967295 = omega (arith, ints) in
    let f = share_fits c.args.difference c.args.place c.requires.difference_in k in
    grind (arith, to_z-of_z, fits c.rnd.result, share_below c.args.difference c.args.place c.args.reaches c.rnd.result c.requires.on_pipe c.requires.some)

pub returns-clause-size : goal.returns-clause-size
returns-clause-size c =
    let k : unsigned_abs c.args.place ≤ 4294967295 = omega (arith, ints) in
    let f = share_fits c.args.difference c.args.place c.requires.difference_in k in
    grind (arith, to_z-of_z, fits c.rnd.result, share_below c.args.difference c.args.place c.args.reaches c.rnd.result c.requires.on_pipe c.requires.some)
