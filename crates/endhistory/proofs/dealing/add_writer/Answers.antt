use Rattle.std.proofs.Common.{arith, ◌≡◌}
use Rattle.endhistory.specs.Blocks.{word_count}
use Rattle.endhistory.proofs.SeatsKept.{adds_writer}
use Rattle.endhistory.proofs.dealing.add_writer.Goals as goal

pub split_seat-requires : goal.split_seat-requires
split_seat-requires g c =
    let top = c.args.top.now in
    let words : top.table_id.words ≡ word_count top.key = c.requires.at.0.words in
    (c.requires.at.0.table, omega arith, adds_writer top.key c.args.seat.now.id c.args.seat.now.me.0 g.B.Given.given c.requires.at.1)
