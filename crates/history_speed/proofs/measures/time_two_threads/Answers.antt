use Rattle.std.proofs.Common.{arith, ◌≤◌, ◌^◌, length}
use Rattle.history_speed.specs.Same.{same_blocks}
use Rattle.history_speed.proofs.SameBlocks.{same_length, same_wide}
use Rattle.history_speed.proofs.measures.time_two_threads.Goals as goal

pub make-requires-clause-blocks : goal.make-requires-clause-blocks
make-requires-clause-blocks g c =
    let few : length (same_blocks c.args.count c.args.width) ≤ 2 ^ 62 = let e = same_length c.args.count c.args.width in let n = c.requires.2 in omega arith in
    (few, same_wide c.args.count c.args.width)
