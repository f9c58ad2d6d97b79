use Rattle.std.proofs.Common.{ℕ, ◌≤◌}
use Rattle.envelope.specs.Calm.{ArePlain}
use Rattle.envelope.proofs.Settled.{HaveJoined}
use Rattle.envelope.proofs.extremes.join_each.Given as goal

abbrev pub invariant-loop-i : goal.invariant-loop-i
invariant-loop-i p l = record {
  joined : HaveJoined l.spots l.first l.i l.step l.fn.cells l.cells;
  plain : (last : ℕ) → l.step ≤ last → ArePlain last l.fn.cells → ArePlain last l.cells;
}
