use Rattle.std.specs.Prelude.{◌≡◌, ℕ, ◌<◌, slice_index_or, true}
use Rattle.regionrun.proofs.probed.probed_places.Given as goal

abbrev pub invariant-loop-i : goal.invariant-loop-i
invariant-loop-i l =
    (j : ℕ) → j < l.i → slice_index_or l.probed.items (slice_index_or l.probes j 0) true ≡ true
