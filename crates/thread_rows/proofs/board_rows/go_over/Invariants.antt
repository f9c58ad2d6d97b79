use Rattle.claimboard.specs.Views.{IsReady}
use Rattle.thread_rows.proofs.board_rows.go_over.Given as goal

abbrev pub invariant-loop-place : goal.invariant-loop-place
invariant-loop-place l = IsReady l.board.table.shared.table_id l.board.table.shared.key.value l.seat.seat
