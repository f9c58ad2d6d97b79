use Rattle.std.specs.Prelude.{◌≡◌, ℕ, ◌+◌, ◌<◌, ◌≤◌, false, slice_index_or, true}
use Rattle.regionrun.proofs.probed.span_may_be_probed.Given as goal

abbrev pub invariant-loop-i : goal.invariant-loop-i
invariant-loop-i l =
    (k : ℕ) → l.first ≤ k → k < l.first + l.i → slice_index_or l.probed k true ≡ false
