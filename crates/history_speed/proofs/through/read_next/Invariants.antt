use Rattle.history_speed.specs.Same.{StandsToRead}
use Rattle.history_speed.proofs.through.read_next.Given as goal

abbrev pub invariant-loop : goal.invariant-loop
invariant-loop g l = StandsToRead l.history.table.shared.table_id l.history.sizes l.count l.number l.reader.seat
