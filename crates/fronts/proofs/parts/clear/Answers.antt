use Rattle.std.proofs.Common.{arith}
use Rattle.fronts.proofs.Keeping.{cleared-all, cleared-more}
use Rattle.fronts.proofs.parts.clear.Goals as goal

pub loop-cavity-preserved : goal.loop-cavity-preserved
loop-cavity-preserved c =
    cleared-more c.loop-cavity.cavities c.loop-cavity.cavity-index c.none.result (omega (arith, c.loop-cavity.auto.cavities, c.loop-cavity-test.true)) c.none.ensures c.loop-cavity.invariant

pub returns : goal.returns
returns c = cleared-all c.loop-cavity.cavities c.loop-cavity.cavity-index (omega (arith, c.loop-cavity.auto.cavities, c.loop-cavity-test.false)) c.loop-cavity.invariant
