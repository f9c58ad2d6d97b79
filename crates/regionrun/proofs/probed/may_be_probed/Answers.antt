use Rattle.std.proofs.lemmas.Bool.{false≢true}
use Rattle.envelope.specs.Cells.{is_within}
use Rattle.regionrun.proofs.Unprobed.{none-more}
use Rattle.regionrun.proofs.probed.may_be_probed.Goals as goal

pub loop-i-init : goal.loop-i-init
unfolding is_within
loop-i-init c = λ k e. absurd (false≢true e)

pub loop-i-preserved : goal.loop-i-preserved
loop-i-preserved c = λ k e.
    none-more c.args.spans.now c.loop-i.i k _ c.args.probed.now c.loop-i-test.true
    c.loop-i.invariant (c.span_may_be_probed.ensures c.if-span_may_be_probed.false) e
