use Rattle.std.specs.Prelude.{◌==◌}
use Rattle.std.proofs.Common.{◌-◌, ◌/◌, arith}
use Rattle.fronts.specs.Stretches.{count_of}
use Rattle.strands.proofs.Taking.{has-beside}
use Rattle.strands.proofs.handed.StationBlockBlock.point.Goals as goal

pub place_beside-place-requires : goal.place_beside-place-requires
place_beside-place-requires c =
    let block = c.args.self.now in
    has-beside (block.right == 1) block.at ((block.window - 1) / 2) (count_of block.stretch.now)
    (c.args.number / 2) block.ahead block.behind (omega (arith, c.requires))
