use Rattle.std.proofs.Common.{◌≡◌}
use Rattle.endhistory.specs.Seats.{IsAt, reading, blocks_of}
use Rattle.thread_rows.proofs.history_rows.consume.Given as goal

abbrev pub invariant-loop-number : goal.invariant-loop-number
invariant-loop-number g l =
    IsAt l.history.table.shared.table_id l.history.sizes l.reader.seat
    × (blocks_of l.reader.seat ≡ blocks_of l.initial.reader.seat)
    × ((reading l.reader.seat).next ≡ l.number)
    × ((reading l.reader.seat).taken ≡ 0)
