use Rattle.endhistory.specs.Seats.{WritesWith, AllFree, writing}
use Rattle.endhistory.proofs.runs.check_all.Given as goal

abbrev pub invariant-loop-reader : goal.invariant-loop-reader
invariant-loop-reader l = WritesWith l.initial.seat (writing l.seat) l.seat × AllFree l.fn.sizes (writing l.initial.seat) (writing l.seat) l.reader
