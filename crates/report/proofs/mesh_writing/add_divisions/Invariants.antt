use Rattle.std.specs.List.{flat_map, range_with_len}
use Rattle.surge_io.proofs.Chains.{HasAdded}
use Rattle.report.specs.MeshText.{division_line}
use Rattle.report.proofs.mesh_writing.add_divisions.Given as goal

abbrev pub invariant-loop-p : goal.invariant-loop-p
invariant-loop-p g l = HasAdded g.K.Sink.held g.K.Sink.faults l.initial.out l.initial.page l.out l.page (flat_map (division_line l.case l.mesh) (range_with_len 0 l.p))
