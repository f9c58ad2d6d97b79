use Rattle.std.proofs.Common.{arith, rules, to_z-of_z}
use Rattle.envelope.proofs.Settled.{joined-over}
use Rattle.envelope.proofs.extremes.raise.Goals as goal

pub returns-then-cell-ge0 : goal.returns-then-cell-ge0
returns-then-cell-ge0 p c = simp (to_z-of_z, c.ranges.h) (joined-over c.args.step c.args.h c.args.v c.args.cell.now (c.requires.late (search rules)) (grind (arith, to_z-of_z)) c.requires.over)
