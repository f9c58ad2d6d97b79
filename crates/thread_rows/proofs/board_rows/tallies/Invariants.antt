use Rattle.std.proofs.Common.{◌≡◌, ℕ, ◌<◌, ◌≤◌, length, slice_index_or, vec_capacity}
use Rattle.thread_rows.specs.declared.board_rows.Tally.{Tally}
use Rattle.thread_rows.proofs.board_rows.tallies.Given as goal

abbrev pub invariant-loop-place : goal.invariant-loop-place
invariant-loop-place l = record {
  room : l.count ≤ vec_capacity l.items;
  many : length l.items.items ≡ l.place;
  each : (i : ℕ) (d : Tally) → i < length l.items.items → slice_index_or l.items.items i d ≡ record { place = i; count = 0 };
}
