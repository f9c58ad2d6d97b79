use Rattle.std.specs.List.{flat_map, range_with_len}
use Rattle.surge_io.proofs.Chains.{HasAdded}
use Rattle.envelope.specs.Kept.{sample_kept}
use Rattle.report.specs.Report.{probe_lines}
use Rattle.report.proofs.writing.add_samples.Given as goal

abbrev pub invariant-loop-probe : goal.invariant-loop-probe
invariant-loop-probe g l = HasAdded g.K.Sink.held g.K.Sink.faults l.initial.out l.initial.page l.out l.page (flat_map (probe_lines l.run.case.now (sample_kept l.run.fold.now)) (range_with_len 0 l.probe))
