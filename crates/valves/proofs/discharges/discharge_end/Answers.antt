use Rattle.std.proofs.Common.{arith, to_z-of_z}
use Rattle.std.proofs.lemmas.Int.{ints}
use Rattle.valves.specs.Discharges.{discharge_end}
use Rattle.valves.proofs.discharges.discharge_end.Goals as goal

pub discharge_after-requires-clause-valve_in : goal.discharge_after-requires-clause-valve_in
discharge_after-requires-clause-valve_in c =
    let z = c.requires.arrival_in.impedance in
    record {
      impedance = record { low = omega (arith, ints); high = omega (arith, ints) };
      valve = c.requires.valve_in;
      product = grind (arith, to_z-of_z, c.is_over.ensures, c.if-is_over.false);
    }

pub returns-else-is_over : goal.returns-else-is_over
unfolding discharge_end
returns-else-is_over c =
    grind (arith, to_z-of_z, c.discharge_after.ensures, c.liquid_flow-q.ensures.value, c.liquid_head.ensures, c.is_over.ensures, c.if-is_over.false)
