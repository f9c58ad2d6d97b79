use Rattle.std.proofs.Common.{◌≡◌, ℕ, ◌<◌, length}
use Rattle.std.specs.Prelude.{slice_index}
use Rattle.endhistory.specs.Blocks.{block}
use Rattle.endhistory.specs.Seats.{ReadsWith, taken_to, reading, blocks_of}
use Rattle.endhistory.proofs.runs.take_all.Given as goal

abbrev pub invariant-loop-i : goal.invariant-loop-i
invariant-loop-i l =
    ReadsWith l.initial.seat (taken_to (reading l.initial.seat) l.i) l.seat
    × (length l.into ≡ length l.initial.into)
    × ((j : ℕ) → j < l.i → slice_index l.into j ≡ slice_index (block (blocks_of l.initial.seat) l.next) j)
