use Rattle.std.proofs.Common.{◌≡◌}
use Rattle.envelope.specs.Probes.{lines_of, marks_of, places_of}
use Rattle.envelope.proofs.SpotLines.{HaveKept}
use Rattle.envelope.proofs.probes.keep_spots.Given as goal

abbrev pub invariant-loop-i : goal.invariant-loop-i
invariant-loop-i l = record {
  places : places_of l.probes ≡ places_of l.fn.probes;
  marks : marks_of l.probes ≡ marks_of l.fn.probes;
  kept : HaveKept l.spots (marks_of l.fn.probes) l.first l.i l.step l.every (lines_of l.fn.probes) (lines_of l.probes);
}
