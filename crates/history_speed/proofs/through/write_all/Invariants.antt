use Rattle.history_speed.specs.Same.{StandsToWrite}
use Rattle.history_speed.proofs.through.write_all.Given as goal

abbrev pub invariant-loop-number : goal.invariant-loop-number
invariant-loop-number g l = StandsToWrite l.history.table.shared.table_id l.history.sizes l.count l.number l.writer.seat
