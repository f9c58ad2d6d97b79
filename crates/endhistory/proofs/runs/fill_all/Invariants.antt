use Rattle.endhistory.specs.Seats.{WritesWith, filled_to, writing}
use Rattle.endhistory.proofs.runs.fill_all.Given as goal

abbrev pub invariant-loop-i : goal.invariant-loop-i
invariant-loop-i l = WritesWith l.initial.seat (filled_to (writing l.initial.seat) l.i) l.seat
