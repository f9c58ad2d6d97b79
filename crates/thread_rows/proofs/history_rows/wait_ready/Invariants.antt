use Rattle.std.proofs.Common.{◌≡◌}
use Rattle.endhistory.specs.Seats.{IsAt, reading, blocks_of}
use Rattle.thread_rows.proofs.history_rows.wait_ready.Given as goal

abbrev pub invariant-loop : goal.invariant-loop
invariant-loop g l =
    IsAt l.history.table.shared.table_id l.history.sizes l.reader.seat
    × (blocks_of l.reader.seat ≡ blocks_of l.initial.reader.seat)
    × ((reading l.reader.seat).next ≡ (reading l.initial.reader.seat).next)
    × ((reading l.reader.seat).taken ≡ (reading l.initial.reader.seat).taken)
