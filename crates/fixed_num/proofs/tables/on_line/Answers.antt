use Rattle.std.proofs.Common.{rules}
use Rattle.fixed_num.specs.Tables.{on_line}
use Rattle.fixed_num.proofs.tables.on_line.Goals as goal

pub returns : goal.returns
unfolding on_line
returns c = record { value = search rules }
