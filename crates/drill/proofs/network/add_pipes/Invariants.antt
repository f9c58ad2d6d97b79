use Rattle.std.proofs.Common.{◌≡◌, ◌++◌, ◌<◌, ◌^◌}
use Rattle.drill.specs.Network.{drawn, pipes_text}
use Rattle.drill.proofs.network.add_pipes.Given as goal

abbrev pub invariant-loop-i : goal.invariant-loop-i
invariant-loop-i l = record {
  few : l.drawn < 2 ^ 32;
  value : l.drawn ≡ drawn l.number l.i;
  text : l.text.items ≡ l.initial.text.items ++ pipes_text l.number l.i;
}
