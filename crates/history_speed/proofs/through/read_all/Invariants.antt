use Rattle.history_speed.specs.Same.{StandsToRead}
use Rattle.history_speed.proofs.through.read_all.Given as goal

abbrev pub invariant-loop-number : goal.invariant-loop-number
invariant-loop-number g l = StandsToRead l.history.table.shared.table_id l.history.sizes l.count l.number l.reader.seat
