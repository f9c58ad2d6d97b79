use Rattle.std.proofs.Common.{◌*◌}
use Rattle.std.specs.List.{flat_map, range_with_len}
use Rattle.surge_io.proofs.Chains.{HasAdded}
use Rattle.envelope.specs.Kept.{sample_kept}
use Rattle.report.specs.Report.{probe_line}
use Rattle.report.proofs.writing.add_probe.Given as goal

abbrev pub invariant-loop-j : goal.invariant-loop-j
invariant-loop-j g l =
    HasAdded g.K.Sink.held g.K.Sink.faults l.initial.out l.initial.page l.out l.page (flat_map (λ j. probe_line l.run.case.now (sample_kept l.run.fold.now) l.probe (j * l.run.case.now.every)) (range_with_len 0 l.j))
