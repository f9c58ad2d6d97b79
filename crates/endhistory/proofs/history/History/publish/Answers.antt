use Rattle.std.proofs.Common.{arith, ◌+◌, ◌≡◌, ap, ◌∙◌, ℕ}
use Rattle.endhistory.specs.Blocks.{word_count}
use Rattle.endhistory.proofs.InARow.{publish_next}
use Rattle.endhistory.proofs.history.History.publish.Goals as goal

pub store-requires : goal.store-requires
store-requires c =
    let history = c.args.self.now in
    let shared = history.table.shared in
    let writer = c.args.writer.now in
    let words : shared.table_id.words ≡ word_count history.sizes = c.requires.at.words in (
      c.fill_all.ensures.0 ∙ c.requires.at.table,
      omega arith,
      publish_next history.sizes shared.key history.keyed shared.table_id.slots writer.seat c.fill_all.new.seat (writer.next + 1) c.fill_all.ensures (ap (λ (k : ℕ). k + 1) writer.counted.0),
    )
