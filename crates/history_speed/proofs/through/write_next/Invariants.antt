use Rattle.history_speed.specs.Same.{StandsToWrite}
use Rattle.history_speed.proofs.through.write_next.Given as goal

abbrev pub invariant-loop : goal.invariant-loop
invariant-loop g l = StandsToWrite l.history.table.shared.table_id l.history.sizes l.count l.number l.writer.seat
