use Rattle.std.proofs.Common.{◌+◌, ◌*◌, ◌^◌, ◌<◌, ◌≤◌}
use Rattle.fixed_num.proofs.roots.root_of_size.Given as goal

abbrev pub invariant-loop-guess : goal.invariant-loop-guess
invariant-loop-guess l = record {
  some : 1 ≤ l.guess;
  above : l.n < (l.guess + 1) * (l.guess + 1);
  small : l.guess ≤ 2 ^ 64;
}

abbrev pub decreases-loop-guess : goal.decreases-loop-guess
decreases-loop-guess l = l.guess
