use Rattle.std.proofs.Common.{arith, to_z-of_z}
use Rattle.fixed_num.proofs.Between.{first_is, last_value, on_segment}
use Rattle.fixed_num.proofs.tables.value_at.Goals as goal

pub returns-then-t-table : goal.returns-then-t-table
returns-then-t-table c = record { value = grind (arith, to_z-of_z, first_is c.args.table.now c.args.t c.requires.some c.requires.rises) }

pub returns-then-table-last : goal.returns-then-table-last
returns-then-table-last c = record { value = grind (arith, to_z-of_z, last_value c.args.table.now c.args.t c.requires.some c.requires.rises) }

pub returns : goal.returns
returns c = record {
  value = grind (arith, to_z-of_z, on_segment c.args.table.now c.args.t c.segment-at.result c.requires.rises c.segment-at.ensures.inside);
}
