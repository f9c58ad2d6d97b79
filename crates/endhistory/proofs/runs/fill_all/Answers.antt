use Rattle.std.proofs.Common.{arith, ◌+◌, ◌<◌, ◌≡◌, ◌≤◌, length, get_or, ap, ◌∙◌, List, ℕ}
use Rattle.endhistory.specs.Blocks.{word_count}
use Rattle.endhistory.proofs.InARow.{fill_next}
use Rattle.endhistory.proofs.runs.fill_all.Goals as goal

pub store-requires : goal.store-requires
store-requires c =
    let top = c.args.top.now in
    let z = c.args.sizes in
    let i = c.loop-i.i in
    let start = c.slot_start-start in
    let words : top.table_id.words ≡ word_count z = c.requires.at.0.words in
    let wide : length c.args.words.now ≡ z.width = c.requires.words.2 in
    let inside : i < length c.args.words.now = c.loop-i-test.true in
    let within : start.result + z.width ≤ word_count z = start.ensures.within in (
      c.loop-i.invariant.0 ∙ c.requires.at.0.table,
      omega arith,
      fill_next z top.key c.requires.at.2 top.table_id.slots c.args.seat.now c.loop-i.seat i (start.result + i) (get_or c.args.words.now i 0) c.args.next c.loop-i.invariant c.requires.writer.1 c.requires.free
          (omega arith) c.requires.words.0 (ap (λ (k : ℕ). k + i) start.ensures.start) (ap (λ (l : List ℕ). get_or l i 0) c.requires.words.1),
    )
