use Rattle.std.proofs.Common.{arith, to_z-of_z, ◌≤◌, ◌*◌, ◌+ℤ◌, unsigned_abs, w64}
use Rattle.std.proofs.lemmas.Int.{ints, fits_signed_from_abs}
use Rattle.charline.proofs.Sizes.{fits_wide}
use Rattle.fixed_num.proofs.Fits.{fits}
use Rattle.scheme.proofs.calm_nodes.added.Goals as goal

pub returns-clause-heads : goal.returns-clause-heads
returns-clause-heads c =
    let s = c.args.sums in
    let a = c.args.weighed.arrival in
    let size = c.weighted.ensures.size in
    let value = c.weighted.ensures.value in
    let same = c.requires.weight in
    let f = fits_wide (s.heads +ℤ c.weighted.result) (omega (arith, ints)) in
    grind (arith, to_z-of_z, f, value, same)

pub returns-clause-weights : goal.returns-clause-weights
returns-clause-weights c =
    let same = c.requires.weight in
    let f = fits_signed_from_abs w64 (c.args.sums.weights +ℤ c.args.weighed.weight) (omega (arith, ints)) in
    grind (arith, to_z-of_z, same)

pub returns-clause-size : goal.returns-clause-size
returns-clause-size c =
    let s = c.args.sums in
    let w = c.args.weighed.weight in
    let fw = fits w (omega (arith, ints)) in
    let size : unsigned_abs c.weighted.result ≤ 10000000000000 * unsigned_abs w = grind (arith, to_z-of_z, c.weighted.ensures.size) in
    let t : unsigned_abs (s.heads +ℤ c.weighted.result) ≤ 10000000000000 * unsigned_abs (s.weights +ℤ w) = omega (arith, ints) in
    let f = fits_wide (s.heads +ℤ c.weighted.result) (omega (arith, ints)) in
    let g = fits_signed_from_abs w64 (s.weights +ℤ w) (omega (arith, ints)) in
    grind (arith, to_z-of_z, t)
