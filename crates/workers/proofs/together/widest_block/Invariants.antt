-- What holds while the widest block is looked for.
use Rattle.std.specs.Prelude.{ℕ, ◌<◌, ◌≤◌}
use Rattle.histories.specs.Blocks.{block_width}
use Rattle.workers.proofs.together.widest_block.Given as goal

abbrev pub invariant-loop-history : goal.invariant-loop-history
invariant-loop-history g l = (y : ℕ) → y < l.history-index
    → block_width l.tag.layout.now l.tag.mesh.now y ≤ l.widest
