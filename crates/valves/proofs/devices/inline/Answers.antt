use Rattle.std.proofs.Common.{arith, to_z-of_z, FitsSigned, w64, ◌+ℤ◌}
use Rattle.std.proofs.lemmas.Int.{ints}
use Rattle.valves.specs.Devices.{inline_through}
use Rattle.valves.specs.Orifices.{IsOrifice}
use Rattle.valves.proofs.devices.inline.Goals as goal
use Rattle.fixed_num.proofs.Fits.{fits}

pub valve_flow-flow-requires-clause-valve_in : goal.valve_flow-flow-requires-clause-valve_in
valve_flow-flow-requires-clause-valve_in c =
    let one = c.requires.one_in.impedance in
    let two = c.requires.two_in.impedance in
    let f : FitsSigned w64 (c.args.one.now.b +ℤ c.args.two.now.b) = fits (c.args.one.now.b +ℤ c.args.two.now.b) (omega (arith, ints)) in
    let g : FitsSigned w64 c.args.one.now.b = fits c.args.one.now.b (omega (arith, ints)) in
    let h : FitsSigned w64 c.args.two.now.b = fits c.args.two.now.b (omega (arith, ints)) in
    let o : IsOrifice (c.args.one.now.b +ℤ c.args.two.now.b) c.args.valve.now.q0 c.args.valve.now.h0 = record {
      impedance = record { low = omega (arith, ints); high = omega (arith, ints) };
      valve = c.requires.valve_in;
      product = grind (arith, to_z-of_z);
    } in
    simp to_z-of_z o

pub returns : goal.returns
unfolding inline_through
returns c =
    let one = c.requires.one_in.impedance in
    let two = c.requires.two_in.impedance in
    let f : FitsSigned w64 (c.args.one.now.b +ℤ c.args.two.now.b) = fits (c.args.one.now.b +ℤ c.args.two.now.b) (omega (arith, ints)) in
    grind (arith, to_z-of_z, c.through.ensures, c.valve_flow-flow.ensures.value)
