use Rattle.std.proofs.Common.{arith, to_z-of_z, FitsSigned, w64, ◌≤◌, unsigned_abs, ◌≡◌, ◌*◌, ◌+◌, ◌*ℤ◌, pos}
use Rattle.std.proofs.lemmas.Int.{ints}
use Rattle.case_model.specs.Limits.{IsWithin}
use Rattle.fixed_num.specs.Rounding.{rnd}
use Rattle.valves.specs.Orifices.{open_flow}
use Rattle.valves.proofs.Quotients.{open_fits, open_below, open_within}
use Rattle.valves.proofs.orifices.open_flow.Goals as goal
use Rattle.fixed_num.proofs.Fits.{fits}

pub overflow_cast-result : goal.overflow_cast-result
overflow_cast-result c =
    let f = open_fits c.args.q0 c.args.opening c.requires.flow c.requires.opening in
    grind (arith, to_z-of_z, fits c.rnd.result, open_below c.args.q0 c.args.opening c.rnd.result c.requires.flow c.requires.opening)

pub returns-clause-value : goal.returns-clause-value
unfolding open_flow
returns-clause-value c =
    let f = open_fits c.args.q0 c.args.opening c.requires.flow c.requires.opening in
    grind (arith, to_z-of_z, fits c.rnd.result, open_below c.args.q0 c.args.opening c.rnd.result c.requires.flow c.requires.opening)

pub returns-clause-within : goal.returns-clause-within
returns-clause-within c =
    let f = open_fits c.args.q0 c.args.opening c.requires.flow c.requires.opening in
    let value : c.rnd.result ≡ rnd (c.args.q0 *ℤ c.args.opening) (pos 1000000) = grind (arith, to_z-of_z) in
    let size : 2 * unsigned_abs c.rnd.result * 1000000 ≤ 2 * unsigned_abs (c.args.q0 *ℤ c.args.opening) + 1000000 = grind (arith, to_z-of_z) in
    let within : IsWithin (pos 0) c.args.q0 c.rnd.result = open_within c.args.q0 c.args.opening c.rnd.result c.requires.flow c.requires.opening value size in
    let small : FitsSigned w64 c.rnd.result = fits c.rnd.result (omega (arith, ints)) in
    record { low = grind (arith, to_z-of_z, within.low); high = grind (arith, to_z-of_z, within.high) }

pub returns-clause-most : goal.returns-clause-most
returns-clause-most c =
    let f = open_fits c.args.q0 c.args.opening c.requires.flow c.requires.opening in
    let value : c.rnd.result ≡ rnd (c.args.q0 *ℤ c.args.opening) (pos 1000000) = grind (arith, to_z-of_z) in
    let size : 2 * unsigned_abs c.rnd.result * 1000000 ≤ 2 * unsigned_abs (c.args.q0 *ℤ c.args.opening) + 1000000 = grind (arith, to_z-of_z) in
    let within : IsWithin (pos 0) c.args.q0 c.rnd.result = open_within c.args.q0 c.args.opening c.rnd.result c.requires.flow c.requires.opening value size in
    let small : FitsSigned w64 c.rnd.result = fits c.rnd.result (omega (arith, ints)) in
    let most : IsWithin (pos 0) (pos 1000000000000) c.rnd.result = record { low = within.low; high = omega (arith, ints) } in
    record { low = grind (arith, to_z-of_z, most.low); high = grind (arith, to_z-of_z, most.high) }
