use Rattle.std.proofs.Common.{arith, to_z-of_z}
use Rattle.valves.proofs.Quotients.{root-most}
use Rattle.valves.proofs.orifices.whole_root.Goals as goal
use Rattle.fixed_num.proofs.Fits.{fits}

pub overflow_cast-result : goal.overflow_cast-result
overflow_cast-result c =
    grind (arith, to_z-of_z, fits c.root.result, root-most c.args.n c.root.result)

pub returns-clause-value : goal.returns-clause-value
returns-clause-value c =
    grind (arith, to_z-of_z, fits c.root.result, root-most c.args.n c.root.result)

pub returns-clause-size : goal.returns-clause-size
returns-clause-size c =
    grind (arith, to_z-of_z, fits c.root.result, root-most c.args.n c.root.result)
