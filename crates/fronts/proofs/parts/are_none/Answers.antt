use Rattle.std.proofs.Common.{arith}
use Rattle.fronts.proofs.Keeping.{none-all, none-more}
use Rattle.fronts.proofs.parts.are_none.Goals as goal

pub loop-cavity-preserved : goal.loop-cavity-preserved
loop-cavity-preserved c =
    none-more c.args.cavities.now c.loop-cavity.cavity-index c.cavity-item.result c.loop-cavity-test.true c.cavity-item.is (c.is_none.ensures c.if-not-is_none.false) c.loop-cavity.invariant

pub returns : goal.returns
returns c = λ e. none-all c.args.cavities.now c.loop-cavity.cavity-index (omega (arith, c.loop-cavity-test.false)) c.loop-cavity.invariant
