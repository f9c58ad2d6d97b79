use Rattle.std.proofs.Common.{take}
use Rattle.std.specs.List.{flat_map}
use Rattle.surge_io.proofs.Chains.{HasAdded}
use Rattle.case_writing.specs.CaseText.{entry_text}
use Rattle.case_writing.proofs.writing.add_entries.Given as goal

abbrev pub invariant-loop-entry : goal.invariant-loop-entry
invariant-loop-entry g l = HasAdded g.K.Sink.held g.K.Sink.faults l.initial.out l.initial.page l.out l.page (flat_map (entry_text l.kind) (take l.entry-index l.entries))
