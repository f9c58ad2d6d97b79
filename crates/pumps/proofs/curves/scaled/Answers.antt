use Rattle.std.proofs.Common.{arith, to_z-of_z, FitsSigned, w64, ◌≡◌, pos, ◌*ℤ◌}
use Rattle.std.proofs.lemmas.Int.{ints}
use Rattle.case_model.specs.Limits.{IsWithin}
use Rattle.pumps.specs.Pumps.{scaled}
use Rattle.pumps.proofs.Scales.{scaled_fits, scaled_within}
use Rattle.pumps.proofs.curves.scaled.Goals as goal
use Rattle.fixed_num.proofs.Fits.{fits}

pub overflow_cast-result : goal.overflow_cast-result
unfolding scaled
overflow_cast-result c =
    let f = scaled_fits c.args.speed c.args.x c.requires.speed_in c.requires.x_in in
    let value : c.rnd.result ≡ scaled c.args.speed c.args.x = grind (arith, to_z-of_z) in
    let at : IsWithin (pos 0) (pos 2 *ℤ c.args.x) (scaled c.args.speed c.args.x) = scaled_within c.args.speed c.args.x c.requires.speed_in c.requires.x_in.low in
    let within : IsWithin (pos 0) (pos 2 *ℤ c.args.x) c.rnd.result = rw value at in
    let most = c.requires.x_in.high in
    let small : FitsSigned w64 c.rnd.result = fits c.rnd.result (omega (arith, ints)) in
    grind (arith, to_z-of_z)

pub returns-clause-value : goal.returns-clause-value
unfolding scaled
returns-clause-value c =
    let f = scaled_fits c.args.speed c.args.x c.requires.speed_in c.requires.x_in in
    let value : c.rnd.result ≡ scaled c.args.speed c.args.x = grind (arith, to_z-of_z) in
    let at : IsWithin (pos 0) (pos 2 *ℤ c.args.x) (scaled c.args.speed c.args.x) = scaled_within c.args.speed c.args.x c.requires.speed_in c.requires.x_in.low in
    let within : IsWithin (pos 0) (pos 2 *ℤ c.args.x) c.rnd.result = rw value at in
    let most = c.requires.x_in.high in
    let small : FitsSigned w64 c.rnd.result = fits c.rnd.result (omega (arith, ints)) in
    grind (arith, to_z-of_z)

pub returns-clause-within : goal.returns-clause-within
unfolding scaled
returns-clause-within c =
    let f = scaled_fits c.args.speed c.args.x c.requires.speed_in c.requires.x_in in
    let value : c.rnd.result ≡ scaled c.args.speed c.args.x = grind (arith, to_z-of_z) in
    let at : IsWithin (pos 0) (pos 2 *ℤ c.args.x) (scaled c.args.speed c.args.x) = scaled_within c.args.speed c.args.x c.requires.speed_in c.requires.x_in.low in
    let within : IsWithin (pos 0) (pos 2 *ℤ c.args.x) c.rnd.result = rw value at in
    let most = c.requires.x_in.high in
    let small : FitsSigned w64 c.rnd.result = fits c.rnd.result (omega (arith, ints)) in
    record { low = grind (arith, to_z-of_z, within.low); high = grind (arith, to_z-of_z, within.high) }
