use Rattle.std.proofs.Common.{◌-◌, ◌≤◌, map, IfSome}
use Rattle.case_model.specs.Sets.{FindsLeast}
use Rattle.case_lines.specs.Alone.{breaks_fields}
use Rattle.case_lines.proofs.judging.judge_fields.Given as goal

abbrev pub invariant-loop-place : goal.invariant-loop-place
invariant-loop-place l = record {
  least : FindsLeast (breaks_fields l.directive (map (λ f. f.now) l.fields) (l.place - 1)) l.least;
  few : IfSome l.least (λ n. n ≤ 10);
}
