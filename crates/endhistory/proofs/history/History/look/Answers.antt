use Rattle.std.proofs.Common.{arith, ◌≡◌, ap}
use Rattle.endhistory.specs.Tells.{Here}
use Rattle.endhistory.specs.Blocks.{word_count}
use Rattle.endhistory.specs.Seats.{reading, number_of}
use Rattle.endhistory.proofs.StepsAllowed.{looks}
use Rattle.endhistory.proofs.history.History.look.Goals as goal

pub load-published-requires : goal.load-published-requires
load-published-requires c =
    let shared = c.args.self.now.table.shared in
    let seat = c.args.reader.now.seat in
    let words : shared.table_id.words ≡ word_count c.args.self.now.sizes = c.requires.at.words in
    (c.requires.at.table, omega arith, looks shared.key shared.table_id.slots seat.id seat.me (number_of seat) (reading seat) (ap (λ (m : Here). m.0.role) c.args.reader.now.reads))
