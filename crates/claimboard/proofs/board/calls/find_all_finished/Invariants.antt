use Rattle.std.proofs.Common.{◌≡◌, ℕ, ◌<◌}
use Rattle.claimboard.specs.Views.{view, OnlyLoaded, Has}
use Rattle.claimboard.proofs.board.calls.find_all_finished.Given as goal

abbrev pub invariant-loop-i : goal.invariant-loop-i
invariant-loop-i g l = record {
  same : (l.seat.table_id ≡ l.initial.seat.table_id) × (l.seat.id ≡ l.initial.seat.id) × (l.seat.me.1 ≡ l.initial.seat.me.1);
  only_loaded : OnlyLoaded (view l.initial.seat) (view l.seat);
  known : (k : ℕ) → k < l.i → Has k (view l.seat).finished;
}
