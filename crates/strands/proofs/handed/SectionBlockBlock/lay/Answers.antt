use Rattle.std.specs.Prelude.{◌==◌, ◌%◌}
use Rattle.std.proofs.Common.{◌≡◌, ◌∙◌, ◌-◌, arith, if◌then◌else◌}
use Rattle.fronts.specs.Stretches.{count_of}
use Rattle.strands.proofs.Laying.{if-false, if-true, same-flag, section-laid}
use Rattle.strands.proofs.handed.SectionBlockBlock.lay.Goals as goal
use Rattle.strands.proofs.handed.SectionBlockBlock.lay.Goals.{else-up, then-up}

pub returns-clause-laid : goal.returns-clause-laid
returns-clause-laid c = λ ok.
    let block = c.args.self.now in
    let up = c.args.up in
    let last = count_of block.stretch.now - 1 - c.args.count in
    let from : c.if-up.from ≡ (if up then 1 else last) =
    elim c.if-up.branch [
      | then-up b ↦ if-true up c.if-up.from 1 last b.if-up.true b.from-is
      | else-up b ↦ if-false up c.if-up.from 1 last b.if-up.false
          (b.from-is ∙ omega (arith, b.count.ensures))
    ] in
    section-laid block up c.args.even c.args.lowest c.if-up.from c.args.count c.args.stretch.now
    c.take.new.self
    (same-flag up (block.left == 1) c.if-up-self.false)
    (same-flag c.args.even (block.start % 2 == 0) c.if-even-self.false) from c.requires.there
    block.long c.take.ensures
