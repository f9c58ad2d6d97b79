use Rattle.fronts.specs.Rows.{IsRowTaken}
use Rattle.fronts.proofs.stretches.Stretch.take_points.Given as goal

abbrev pub invariant-loop-index : goal.invariant-loop-index
invariant-loop-index l = IsRowTaken l.even l.place l.other l.from l.index l.fn.self l.self
