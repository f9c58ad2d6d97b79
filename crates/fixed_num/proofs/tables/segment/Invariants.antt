use Rattle.std.proofs.Common.{◌-◌, ◌<◌, ◌≤ℤ◌, ◌<ℤ◌, length}
use Rattle.fixed_num.specs.Tables.{entry_at}
use Rattle.fixed_num.proofs.tables.segment.Given as goal

abbrev pub invariant-loop-high : goal.invariant-loop-high
invariant-loop-high l = record {
  apart : l.low < l.high;
  inside : l.high < length l.table;
  before : (entry_at l.table l.low).0 ≤ℤ l.t;
  after : l.t <ℤ (entry_at l.table l.high).0;
}

abbrev pub decreases-loop-high : goal.decreases-loop-high
decreases-loop-high l = l.high - l.low
