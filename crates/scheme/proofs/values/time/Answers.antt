use Rattle.std.proofs.Common.{arith, to_z-of_z}
use Rattle.scheme.proofs.TimeTables.{late_step}
use Rattle.scheme.proofs.values.time.Goals as goal

pub returns-then-step-gt1000000000000 : goal.returns-then-step-gt1000000000000
returns-then-step-gt1000000000000 c = grind (arith, to_z-of_z, late_step c.args.step 1_000_000_000_000 c.args.dt c.if-step-gt1000000000000.true c.requires.least)
