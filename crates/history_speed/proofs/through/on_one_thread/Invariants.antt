use Rattle.history_speed.specs.Same.{StandsToWrite, StandsToRead}
use Rattle.history_speed.proofs.through.on_one_thread.Given as goal

abbrev pub invariant-loop-number : goal.invariant-loop-number
invariant-loop-number l =
    StandsToWrite l.history.table.shared.table_id l.history.sizes l.count l.number l.writer.seat
    × StandsToRead l.history.table.shared.table_id l.history.sizes l.count l.number l.reader.seat
