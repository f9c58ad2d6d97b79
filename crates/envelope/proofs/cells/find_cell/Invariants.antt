use Rattle.std.proofs.Common.{◌≡◌, ◌-◌, ℕ, ◌<◌, ◌≤◌, length, get_or}
use Rattle.envelope.specs.Cells.{bases_of, end_of_span}
use Rattle.envelope.proofs.cells.find_cell.Given as goal

abbrev pub invariant-loop-index : goal.invariant-loop-index
invariant-loop-index l = record {
  inside : l.index < length l.spans;
  passed : (i : ℕ) → i < l.index → end_of_span l.spans i ≤ l.place;
  is : l.before ≡ get_or (bases_of l.spans) l.index 0;
}

abbrev pub decreases-loop-index : goal.decreases-loop-index
decreases-loop-index l = length l.spans - l.index
