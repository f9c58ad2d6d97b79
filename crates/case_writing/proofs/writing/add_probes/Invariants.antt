use Rattle.std.proofs.Common.{take}
use Rattle.std.specs.List.{flat_map}
use Rattle.surge_io.proofs.Chains.{HasAdded}
use Rattle.case_writing.specs.CaseText.{probe_text}
use Rattle.case_writing.proofs.writing.add_probes.Given as goal

abbrev pub invariant-loop-probe : goal.invariant-loop-probe
invariant-loop-probe g l = HasAdded g.K.Sink.held g.K.Sink.faults l.initial.out l.initial.page l.out l.page (flat_map (probe_text l.pipes l.nodes) (take l.probe-index l.probes))
