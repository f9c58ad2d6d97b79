use Rattle.std.proofs.Common.{take}
use Rattle.std.specs.List.{flat_map}
use Rattle.surge_io.proofs.Chains.{HasAdded}
use Rattle.case_writing.specs.CaseText.{table_text}
use Rattle.case_writing.proofs.writing.add_tables.Given as goal

abbrev pub invariant-loop-table : goal.invariant-loop-table
invariant-loop-table g l = HasAdded g.K.Sink.held g.K.Sink.faults l.initial.out l.initial.page l.out l.page (flat_map (table_text) (take l.table-index l.tables))
