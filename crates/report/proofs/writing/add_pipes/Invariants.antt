use Rattle.std.specs.List.{flat_map, range_with_len}
use Rattle.surge_io.proofs.Chains.{HasAdded}
use Rattle.report.specs.Parts.{lines_of_pipe}
use Rattle.report.specs.Reportable.{extremes_of}
use Rattle.report.proofs.writing.add_pipes.Given as goal

abbrev pub invariant-loop-p : goal.invariant-loop-p
invariant-loop-p g l = HasAdded g.K.Sink.held g.K.Sink.faults l.initial.out l.initial.page l.out l.page (flat_map (lines_of_pipe l.part l.run.case.now l.run.mesh.now (extremes_of l.run.mesh.now l.run.fold.now)) (range_with_len 0 l.p))
