use Rattle.std.proofs.Common.{◌≡◌, length}
use Rattle.endhistory.specs.Seats.{IsAt, writing, blocks_of}
use Rattle.thread_rows.proofs.history_rows.produce.Given as goal

abbrev pub invariant-loop-number : goal.invariant-loop-number
invariant-loop-number g l =
    IsAt l.history.table.shared.table_id l.history.sizes l.writer.seat
    × (blocks_of l.writer.seat ≡ blocks_of l.initial.writer.seat)
    × ((writing l.writer.seat).next ≡ l.number)
    × (length l.words ≡ 8)
