use Rattle.std.proofs.Common.{arith, to_z-of_z, FitsSigned, w64, ◌+ℤ◌, ◌-ℤ◌}
use Rattle.std.proofs.lemmas.Int.{ints}
use Rattle.pumps.specs.Pumps.{pump_through}
use Rattle.pumps.proofs.flows.pump_flow.Goals as goal
use Rattle.fixed_num.proofs.Fits.{fits}

pub returns : goal.returns
unfolding pump_through
returns c =
    let one = c.requires.one_in.impedance in
    let two = c.requires.two_in.impedance in
    let one_c = c.requires.one_in.value in
    let two_c = c.requires.two_in.value in
    let f : FitsSigned w64 (c.args.one.now.b +ℤ c.args.two.now.b) = fits (c.args.one.now.b +ℤ c.args.two.now.b) (omega (arith, ints)) in
    let g : FitsSigned w64 (c.args.one.now.c -ℤ c.args.two.now.c) = fits (c.args.one.now.c -ℤ c.args.two.now.c) (omega (arith, ints)) in
    grind (arith, to_z-of_z, c.through.ensures, c.max.ensures.value, c.free_flow-flow.ensures)
