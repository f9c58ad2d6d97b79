use Rattle.std.proofs.Common.{arith, ap}
use Rattle.case_writing.specs.CaseText.{table_text}
use Rattle.surge_io.proofs.Chains.{all_items, next_item, stopped_item}
use Rattle.case_writing.proofs.writing.add_tables.Goals as goal

pub returns-in_err-add_table : goal.returns-in_err-add_table
returns-in_err-add_table g c =
    stopped_item (table_text) c.args.tables.now c.loop-table.table-index c.table-item.result (omega arith) (ap table_text c.table-item.is) c.from_residual.ensures.0 c.loop-table.invariant c.in_err-add_table.ensures

pub loop-table-preserved : goal.loop-table-preserved
loop-table-preserved g c =
    next_item (table_text) c.args.tables.now c.loop-table.table-index c.table-item.result (omega arith) (ap table_text c.table-item.is) c.loop-table.invariant c.in_ok-add_table.ensures

pub returns : goal.returns
returns g c = all_items (table_text) c.args.tables.now c.loop-table.table-index (omega arith) c.loop-table.invariant
