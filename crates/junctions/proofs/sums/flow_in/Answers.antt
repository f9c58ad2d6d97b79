use Rattle.std.proofs.Common.{arith, to_z-of_z, ◌-ℤ◌}
use Rattle.std.proofs.lemmas.Int.{ints}
use Rattle.junctions.proofs.Quotients.{inflow_most}
use Rattle.junctions.proofs.sums.flow_in.Goals as goal

pub returns-clause-size : goal.returns-clause-size
returns-clause-size c =
    let a = c.args.arrival.now in
    grind (arith, to_z-of_z, inflow_most (a.c -ℤ c.args.head) a.b c.requires.arrival_in.impedance.low (omega (arith, ints)))
