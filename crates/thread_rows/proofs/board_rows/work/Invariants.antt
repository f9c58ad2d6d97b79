use Rattle.claimboard.specs.Views.{IsReady}
use Rattle.thread_rows.proofs.board_rows.work.Given as goal

abbrev pub invariant-loop : goal.invariant-loop
invariant-loop l = IsReady l.board.table.shared.table_id l.board.table.shared.key.value l.seat.seat
