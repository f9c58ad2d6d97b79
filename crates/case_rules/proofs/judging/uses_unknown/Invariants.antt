use Rattle.std.proofs.Common.{◌≡◌, ◌≤◌, ℕ, ◌-◌, List, length, false}
use Rattle.case_rules.specs.Known.{AreNames}
use Rattle.case_rules.specs.Among.{uses_unknown}
use Rattle.case_rules.proofs.judging.uses_unknown.Given as goal

abbrev pub invariant-loop-place : goal.invariant-loop-place
invariant-loop-place l = record {
  known : (all : List (List (List ℕ))) → AreNames l.names all → uses_unknown all l.directive l.line (l.place - 1) ≡ false;
  within : l.place - 1 ≤ length l.line - 1;
}
