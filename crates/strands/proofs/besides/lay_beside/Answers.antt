use Rattle.std.specs.Prelude.{◌==◌, ◌%◌}
use Rattle.std.proofs.Common.{◌≡◌, ◌+◌, ◌-◌, ◌/◌, arith, refl, if◌then◌else◌}
use Rattle.fronts.specs.Stretches.{count_of}
use Rattle.strands.proofs.Laying.{beside-laid, if-false, if-true}
use Rattle.strands.proofs.Taking.{nearer}
use Rattle.strands.specs.Stations.{half}
use Rattle.strands.proofs.besides.lay_beside.Goals as goal
use Rattle.strands.proofs.besides.lay_beside.Goals.{else-right, then-right}

pub returns-clause-holds : goal.returns-clause-holds
returns-clause-holds g c = λ ok law since front points h.
    let old = c.args.stretch.now in
    let right = c.args.right in
    let at = c.args.at in
    let w = c.args.window in
    let s = c.args.start in
    let low : c.if-right.lowest ≡ (if right then at + 1 else at - w / 2) =
    elim c.if-right.branch [
      | then-right b ↦ if-true right c.if-right.lowest (at + 1) (at - w / 2) b.if-right.true
          b.lowest-is
      | else-right b ↦ if-false right c.if-right.lowest (at + 1) (at - w / 2) b.if-right.false
          b.lowest-is
    ] in
    beside-laid law old c.lay.new.stretch right (s % 2 == 0) at w s c.if-right.lowest (w / 2)
    (g.B.Block.tells c.args.block.now) since front
    (nearer right at (half w) (w / 2) (count_of old) c.requires.inside (omega arith)) (omega arith)
    low refl
    c.lay.ensures.same (c.lay.ensures.laid ok) points h
