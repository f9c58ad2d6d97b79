use Rattle.std.proofs.Common.{◌≡◌, ◌≤◌}
use Rattle.thread_rows.proofs.board_rows.burst.Given as goal

abbrev pub invariant-loop : goal.invariant-loop
invariant-loop l = (l.item.place ≡ l.initial.item.place) × (l.item.count ≤ 100)
