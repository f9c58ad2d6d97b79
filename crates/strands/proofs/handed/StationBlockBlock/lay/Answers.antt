use Rattle.std.specs.Prelude.{◌==◌}
use Rattle.std.proofs.Common.{◌≡◌, ◌+◌, ◌-◌, if◌then◌else◌}
use Rattle.strands.proofs.Laying.{if-false, if-true, other-parity, same-flag, station-laid}
use Rattle.strands.proofs.handed.StationBlockBlock.lay.Goals as goal
use Rattle.strands.proofs.handed.StationBlockBlock.lay.Goals.{else-up, then-up}

pub returns-clause-laid : goal.returns-clause-laid
returns-clause-laid c = λ ok.
    let block = c.args.self.now in
    let up = c.args.up in
    let last = block.at + 1 - c.args.count in
    let from : c.if-up.from ≡ (if up then block.at else last) =
    elim c.if-up.branch [
      | then-up b ↦ if-true up c.if-up.from block.at last b.if-up.true b.from-is
      | else-up b ↦ if-false up c.if-up.from block.at last b.if-up.false b.from-is
    ] in
    station-laid block up c.args.even c.args.lowest c.if-up.from c.args.count c.args.stretch.now
    c.take.new.self
    (same-flag up (block.right == 1) c.if-up-self.false)
    (other-parity c.args.even (block.start + block.window) c.if-even-self.false) from
    c.requires.there block.behind c.take.ensures
