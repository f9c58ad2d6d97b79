use Rattle.std.proofs.Common.{ℕ, ◌+◌, ◌<◌, ◌≤◌, ◌≡◌, length, drop, IsTrue}
use Rattle.case_lines.specs.Texts.{lines_of}
use Rattle.case_rules.specs.Among.{line_rules}
use Rattle.case_rules.proofs.reading.judge_lines.Given as goal

abbrev pub invariant-lines : goal.invariant-lines
invariant-lines l = record {
  left : lines_of l.rest ≡ drop l.before (lines_of l.bytes);
  within : l.before + length l.rest ≤ length l.bytes;
  kept : (line number : ℕ) → IsTrue (line_rules (lines_of l.bytes) line number) → l.before < line;
}

abbrev pub decreases-lines : goal.decreases-lines
decreases-lines l = length l.rest
