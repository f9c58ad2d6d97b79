use Rattle.std.proofs.Common.{ℕ, ◌+◌, ◌-◌, ◌≤◌, List, Option, length}
use Rattle.surge_io.specs.Bytes.{HasRead}
use Rattle.surge_io.specs.Readings.{HasTaken}
use Rattle.surge_io.proofs.reading.whole.Given as goal

-- what has been read before a turn of the loop
pub record IsReadSoFar {S : Type 0} (gives : S → ℕ → Option (List ℕ) → S → Type 0) (left : S → Option (List ℕ)) (faults : S → ℕ) (limit : ℕ) (before now : S) (taken : List ℕ) : Type 0 where
  pub few : length taken ≤ limit + 1
  pub gave : HasTaken gives before taken now
  pub read : HasRead (left before) (left now) taken
  pub later : faults before ≤ faults now

abbrev pub invariant-loop-piece : goal.invariant-loop-piece
invariant-loop-piece g l =
    IsReadSoFar g.S.Source.gives g.S.Source.left g.S.Source.faults l.limit l.initial.src l.src l.bytes.items

abbrev pub decreases-loop-piece : goal.decreases-loop-piece
decreases-loop-piece g l = l.limit + 1 - length l.bytes.items
