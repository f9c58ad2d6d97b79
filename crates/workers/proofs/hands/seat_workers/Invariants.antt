-- What holds while workers are seated.
use Rattle.std.specs.Prelude.{◌≡◌, ◌+◌, length, All}
use Rattle.claimboard.specs.Views.{IsReady}
use Rattle.workers.proofs.hands.seat_workers.Given as goal

abbrev pub invariant-loop-seat : goal.invariant-loop-seat
invariant-loop-seat g l = record {
  count : length l.hands.items + length l.seats.items ≡ length l.fn.seats.items;
  left : All (λ s. IsReady l.board.table.shared.table_id l.board.table.shared.key.value s.seat)
      l.seats.items;
  seated : All (λ hand. IsReady l.board.table.shared.table_id l.board.table.shared.key.value
      hand.seat.seat) l.hands.items;
  room : All (λ hand. length hand.scratch.items ≡ l.words) l.hands.items;
}

abbrev pub decreases-loop-seat : goal.decreases-loop-seat
decreases-loop-seat g l = length l.seats.items
