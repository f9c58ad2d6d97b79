use Rattle.std.proofs.Common.{arith, to_z-of_z}
use Rattle.junctions.specs.Junctions.{junction_head}
use Rattle.junctions.proofs.laws.junction_head.Goals as goal

pub returns-clause-value : goal.returns-clause-value
unfolding junction_head
returns-clause-value c =
    let sums = c.weighted_sums-heads in
    grind (arith, to_z-of_z, sums.ensures.heads, sums.ensures.weights)
