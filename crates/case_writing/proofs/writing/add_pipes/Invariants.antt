use Rattle.std.proofs.Common.{take}
use Rattle.std.specs.List.{flat_map}
use Rattle.surge_io.proofs.Chains.{HasAdded}
use Rattle.case_writing.specs.CaseText.{pipe_text}
use Rattle.case_writing.proofs.writing.add_pipes.Given as goal

abbrev pub invariant-loop-pipe : goal.invariant-loop-pipe
invariant-loop-pipe g l = HasAdded g.K.Sink.held g.K.Sink.faults l.initial.out l.initial.page l.out l.page (flat_map (pipe_text l.nodes) (take l.pipe-index l.pipes))
