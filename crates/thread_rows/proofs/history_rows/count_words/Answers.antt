use Rattle.std.proofs.Common.{arith, ℕ, ◌≡◌, ◌≤◌, length, sym, subst}
use Rattle.endhistory.specs.Blocks.{block, count_blocks}
use Rattle.endhistory.proofs.Counted.{counted_block}
use Rattle.thread_rows.proofs.history_rows.count_words.Goals as goal

pub returns : goal.returns
returns c =
    let tag = c.args.tag in
    let words = c.loop-i.words in
    let inv = c.loop-i.invariant in
    let wide : length c.args.words.now ≡ 8 = c.requires.inside.1 in
    let all : length c.args.words.now ≤ c.loop-i.i = c.loop-i-test.false in
    subst (λ (w : ℕ). words ≡ block (count_blocks tag.base w tag.count) c.args.number) (sym c.requires.tag.0)
    (counted_block tag.base 8 tag.count c.args.number words c.requires.inside.0 inv.0 (λ i l. inv.1 i (omega arith)))
