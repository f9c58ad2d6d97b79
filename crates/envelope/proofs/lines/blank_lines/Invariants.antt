use Rattle.std.proofs.Common.{◌/◌, ◌+◌}
use Rattle.envelope.specs.Lines.{AreBlank}
use Rattle.envelope.proofs.lines.blank_lines.Given as goal

abbrev pub invariant-loop : goal.invariant-loop
invariant-loop l = AreBlank l.counter (l.steps / l.every + 1) l.samples.items
