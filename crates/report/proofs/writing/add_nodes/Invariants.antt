use Rattle.std.specs.List.{flat_map, range_with_len}
use Rattle.surge_io.proofs.Chains.{HasAdded}
use Rattle.report.specs.Parts.{node_line}
use Rattle.report.specs.Reportable.{extremes_of}
use Rattle.report.proofs.writing.add_nodes.Given as goal

abbrev pub invariant-loop-k : goal.invariant-loop-k
invariant-loop-k g l = HasAdded g.K.Sink.held g.K.Sink.faults l.initial.out l.initial.page l.out l.page (flat_map (node_line l.part l.run.case.now (extremes_of l.run.mesh.now l.run.fold.now)) (range_with_len 0 l.k))
