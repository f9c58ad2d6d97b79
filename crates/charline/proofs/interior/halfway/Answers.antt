use Rattle.std.proofs.Common.{arith, to_z-of_z, ◌≤ℤ◌, pos}
use Rattle.std.proofs.lemmas.Int.{ints}
use Rattle.charline.proofs.Factors.{meet_halfway}
use Rattle.charline.proofs.interior.halfway.Goals as goal

pub returns : goal.returns
returns c =
    let low = c.requires.plus_in.impedance.low in
    let some : pos 1 ≤ℤ c.args.plus.now.b = omega (arith, ints) in
    grind (arith, to_z-of_z, c.half.ensures.value, meet_halfway c.args.plus.now c.args.minus.now c.requires.same some)
