use Rattle.std.proofs.Common.{◌≤◌, ◌+◌, length}
use Rattle.case_lines.specs.Texts.{lines_of}
use Rattle.case_rules.specs.Tallies.{IsFew, IsTallied}
use Rattle.case_rules.proofs.tally.tally_lines.Given as goal

abbrev pub invariant-lines : goal.invariant-lines
invariant-lines l = record {
  tallied : IsTallied l.tally (lines_of l.rest) (lines_of l.bytes);
  few : IsFew l.tally.lines l.tally;
  within : l.tally.lines + length l.rest ≤ length l.bytes;
}

abbrev pub decreases-lines : goal.decreases-lines
decreases-lines l = length l.rest
