use Rattle.std.proofs.Common.{◌≡◌, ◌+◌, ◌-◌, ◌/◌, ◌^◌, ◌++◌, take, drop}
use Rattle.fixed_num.specs.Written.{last_digits}
use Rattle.fixed_num.proofs.written.put_last.Given as goal

abbrev pub invariant-loop-i : goal.invariant-loop-i
invariant-loop-i l = record {
  rest : l.rest ≡ l.n / 10 ^ l.i;
  text : l.into ≡ take (l.at + (l.count - l.i)) l.initial.into ++ last_digits l.i l.n ++ drop (l.at + l.count) l.initial.into;
}
