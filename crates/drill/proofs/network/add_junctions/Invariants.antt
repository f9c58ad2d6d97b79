use Rattle.std.proofs.Common.{◌≡◌, ◌++◌}
use Rattle.drill.specs.Network.{junctions_text}
use Rattle.drill.proofs.network.add_junctions.Given as goal

abbrev pub invariant-loop-i : goal.invariant-loop-i
invariant-loop-i l = l.text.items ≡ l.initial.text.items ++ junctions_text l.i
