use Rattle.std.proofs.Common.{◌≡◌}
use Rattle.endhistory.specs.Seats.{IsAt, writing, blocks_of}
use Rattle.thread_rows.proofs.history_rows.wait_free.Given as goal

abbrev pub invariant-loop : goal.invariant-loop
invariant-loop g l =
    IsAt l.history.table.shared.table_id l.history.sizes l.writer.seat
    × (blocks_of l.writer.seat ≡ blocks_of l.initial.writer.seat)
    × ((writing l.writer.seat).next ≡ (writing l.initial.writer.seat).next)
