use Rattle.std.proofs.Common.{arith, to_z-of_z}
use Rattle.charline.proofs.Singles.{driven_twofold}
use Rattle.charline.proofs.runs.Prepared.single_flow.Goals as goal

pub returns-then-is_small-clause-value : goal.returns-then-is_small-clause-value
returns-then-is_small-clause-value c =
    let d = driven_twofold c.args.difference c.args.self.now.b (omega (arith, c.args.self.now.limits.low)) in
    grind (arith, to_z-of_z)
