use Rattle.std.proofs.Common.{◌∙◌}
use Rattle.scheme.proofs.Calm.{one_pushed}
use Rattle.scheme.proofs.prepared.prepare_all.Goals as goal

pub loop-pipe-preserved : goal.loop-pipe-preserved
loop-pipe-preserved c =
    one_pushed c.args.case.now c.args.mesh.now c.loop-pipe.pipe c.loop-pipe.table.items _ _ c.loop-pipe.invariant.0 c.loop-pipe.invariant.1 c.prepare_pipe.ensures c.in_ok-push.ensures.items

pub loop-node-preserved : goal.loop-node-preserved
loop-node-preserved c =
    let now = c.guess_node.ensures in
    let inv = c.loop-node.invariant in
    (now.each ∙ inv.0, now.prepared c.args.case.now c.args.mesh.now inv.1)
