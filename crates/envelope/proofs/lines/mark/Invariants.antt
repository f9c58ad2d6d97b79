use Rattle.std.proofs.Common.{◌≡◌, length}
use Rattle.envelope.specs.Cells.{bases_of}
use Rattle.envelope.specs.Lines.{IsMarked}
use Rattle.envelope.proofs.lines.mark.Given as goal

abbrev pub invariant-loop-probe : goal.invariant-loop-probe
invariant-loop-probe l = record {
  each : length l.marks.items ≡ l.count;
  own : IsMarked l.spans (bases_of l.spans) l.probes l.probe l.marks.items;
}
