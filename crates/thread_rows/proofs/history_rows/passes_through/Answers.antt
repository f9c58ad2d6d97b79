use Rattle.std.proofs.Common.{arith, ◌≤◌, ℕ, ◌^◌, length, subst}
use Rattle.endhistory.specs.Blocks.{AreWide, count_blocks}
use Rattle.endhistory.proofs.Counted.{counted_length, counted_wide}
use Rattle.thread_rows.proofs.history_rows.passes_through.Goals as goal

pub make-requires-clause-blocks : goal.make-requires-clause-blocks
make-requires-clause-blocks g c =
    let tag = c.args.tag in
    let few : length (count_blocks tag.base tag.width tag.count) ≤ 2 ^ 62 = let e = counted_length tag.base tag.width tag.count in let n = c.requires.tag.2 in omega arith in
    (few, subst (λ (w : ℕ). AreWide w (count_blocks tag.base tag.width tag.count)) c.requires.tag.0 (counted_wide tag.base tag.width tag.count))
