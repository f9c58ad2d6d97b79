use Rattle.std.proofs.Common.{arith, to_z-of_z}
use Rattle.valves.specs.Orifices.{line_flow}
use Rattle.valves.proofs.orifices.line_flow.Goals as goal

pub returns-clause-value : goal.returns-clause-value
unfolding line_flow
returns-clause-value c =
    grind (arith, to_z-of_z, c.along.ensures.value, c.root_of_sum.ensures.value, c.squared.ensures.value, c.under.ensures.value)
