use Rattle.std.proofs.Common.{arith}
use Rattle.regions.proofs.Cutting.{sections-some}
use Rattle.regions.proofs.cuts.section_reaches.Goals as goal

pub nonzero_rem-reaches : goal.nonzero_rem-reaches
nonzero_rem-reaches c = let s = sections-some c.args.window c.args.reaches in grind arith

pub nonzero_div-result : goal.nonzero_div-result
nonzero_div-result c = let s = sections-some c.args.window c.args.reaches in grind arith
