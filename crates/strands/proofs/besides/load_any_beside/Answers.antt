use Rattle.strands.proofs.Taking.{same-outer}
use Rattle.strands.proofs.besides.load_any_beside.Goals as goal

pub returns-then-lay_beside-clause-holds : goal.returns-then-lay_beside-clause-holds
returns-then-lay_beside-clause-holds g c = λ law since front points h.
    let old = c.args.stretch.now in
    let mid = c.lay_beside.new.stretch in
    c.load_last.ensures.holds law since front
    (same-outer law old mid c.args.right c.args.at c.args.window c.args.start
    (g.B.Block.tells c.args.block) c.lay_beside.ensures.same points)
    (c.lay_beside.ensures.holds c.if-lay_beside.true law since front points h)
