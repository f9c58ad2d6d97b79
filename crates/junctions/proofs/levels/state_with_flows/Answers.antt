use Rattle.std.proofs.Common.{arith, to_z-of_z, ◌∙◌, sym}
use Rattle.junctions.specs.Levels.{flows_of}
use Rattle.junctions.proofs.States.{state_head}
use Rattle.junctions.proofs.levels.state_with_flows.Goals as goal

pub returns-in-Good-clause-flows : goal.returns-in-Good-clause-flows
unfolding flows_of
returns-in-Good-clause-flows c =
    let e = state_head _ _ _ _ _ _ (sym c.state_of.ensures.value ∙ c.in-Good.is) in
    grind (arith, to_z-of_z)
