use Rattle.std.proofs.Common.{arith, to_z-of_z, FitsSigned, w64}
use Rattle.std.proofs.lemmas.Int.{ints}
use Rattle.valves.proofs.devices.through.Goals as goal
use Rattle.fixed_num.proofs.Fits.{fits}

pub returns : goal.returns
returns c =
    let f : FitsSigned w64 c.args.flow = fits c.args.flow (omega (arith, ints, c.unsigned_abs.ensures.value)) in
    grind (arith, to_z-of_z, c.at_flow.ensures)
