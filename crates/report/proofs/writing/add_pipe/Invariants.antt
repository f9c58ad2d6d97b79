use Rattle.std.specs.List.{flat_map, range_with_len}
use Rattle.surge_io.proofs.Chains.{HasAdded}
use Rattle.report.specs.Parts.{pipe_line}
use Rattle.report.specs.Reportable.{extremes_of}
use Rattle.report.proofs.writing.add_pipe.Given as goal

abbrev pub invariant-loop-i : goal.invariant-loop-i
invariant-loop-i g l = HasAdded g.K.Sink.held g.K.Sink.faults l.initial.out l.initial.page l.out l.page (flat_map (pipe_line l.part l.run.case.now (extremes_of l.run.mesh.now l.run.fold.now) l.pipe) (range_with_len 0 l.i))
