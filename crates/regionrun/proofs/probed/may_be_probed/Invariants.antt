use Rattle.std.specs.Prelude.{◌≡◌, ℕ, false, slice_index_or, take, true}
use Rattle.envelope.specs.Cells.{is_within}
use Rattle.regionrun.proofs.probed.may_be_probed.Given as goal

abbrev pub invariant-loop-i : goal.invariant-loop-i
invariant-loop-i l =
    (k : ℕ) → is_within (take l.i l.spans) k ≡ true → slice_index_or l.probed k true ≡ false
