use Rattle.std.proofs.Common.{arith}
use Rattle.charline.proofs.Sizes.{millions_and_rest}
use Rattle.charline.proofs.losses.narrow_slope.Goals as goal

pub returns-in-Some-clause-value : goal.returns-in-Some-clause-value
returns-in-Some-clause-value c = grind (arith, millions_and_rest c.args.r c.args.q)
