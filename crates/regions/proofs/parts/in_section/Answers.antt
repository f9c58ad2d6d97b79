use Rattle.std.proofs.Common.{arith}
use Rattle.regions.proofs.Parting.{answer_own, answer_left, answer_right}
use Rattle.regions.proofs.parts.in_section.Goals as goal

pub returns-in-Own : goal.returns-in-Own
returns-in-Own c = answer_own c.args.window c.args.reaches c.in-Own.own c.args.region c.args.place c.args.step c.requires.window c.requires.long (omega arith) (omega arith) c.in-Own.ensures

pub returns-in-Left : goal.returns-in-Left
returns-in-Left c = answer_left c.args.window c.args.reaches _ c.args.region c.args.place c.args.step c.requires.window (omega arith) c.in-Left.ensures

pub returns-in-Right : goal.returns-in-Right
returns-in-Right c = answer_right c.args.window c.args.reaches _ c.args.region c.args.place c.args.step c.requires.window (omega arith) c.in-Right.ensures
