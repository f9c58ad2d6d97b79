use Rattle.std.proofs.Common.{length}
use Rattle.case_lines.proofs.Rules.{table_counted}
use Rattle.case_lines.proofs.order.is_disordered.Goals as goal

pub is_ordered-requires : goal.is_ordered-requires
is_ordered-requires c =
    let h = rw c.in-OfTable.is at c.requires in
    table_counted c.in-OfTable.kind (length c.args.fields.now) h
