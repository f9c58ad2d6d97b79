use Rattle.std.specs.Prelude.{◌==◌, ◌%◌}
use Rattle.std.proofs.Common.{◌≡◌, ◌∙◌, ◌+◌, ◌-◌, ◌/◌, arith, if◌then◌else◌}
use Rattle.fronts.specs.Stretches.{count_of}
use Rattle.strands.proofs.Laying.{if-false, if-true, next-odd, side-laid}
use Rattle.strands.proofs.blocks.lay_side.Goals as goal
use Rattle.strands.proofs.blocks.lay_side.Goals.{else-left, then-left}

pub returns-clause-holds : goal.returns-clause-holds
returns-clause-holds g c = λ ok law front points h.
    let old = c.args.stretch.now in
    let left = c.args.left in
    let w = c.args.window in
    let s = c.args.start in
    let n = count_of old - 1 in
    let size : count_of old ≡ n + 1 = omega (arith, c.requires.long) in
    let low : c.if-left.lowest ≡ (if left then 0 else n + 1 - w / 2) =
    elim c.if-left.branch [
      | then-left b ↦ if-true left c.if-left.lowest 0 (n + 1 - w / 2) b.if-left.true b.lowest-is
      | else-left b ↦ if-false left c.if-left.lowest 0 (n + 1 - w / 2) b.if-left.false
          (b.lowest-is ∙ omega (arith, b.count.ensures, c.requires.long))
    ] in
    side-laid law old c.lay.new.stretch left ((s + w) % 2 == 1) n w s c.if-left.lowest (w / 2)
    (g.B.Block.tells c.args.block.now) front
    size (omega (arith, c.requires.long)) (omega arith) low (next-odd (s + w)) c.lay.ensures.same
    (c.lay.ensures.laid ok) points h
