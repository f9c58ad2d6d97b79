use Rattle.std.proofs.Common.{arith, to_z-of_z, pos}
use Rattle.std.proofs.lemmas.List.Sums.{position_or_len_is}
use Rattle.pumps.specs.Pumps.{is_spent}
use Rattle.pumps.proofs.curves.first_spent.Goals as goal

pub returns-then-is_spent : goal.returns-then-is_spent
returns-then-is_spent c =
    grind (arith, to_z-of_z, position_or_len_is (is_spent c.args.e c.args.b c.args.speed) c.args.points.now c.loop-i.i (pos 0, pos 0))

pub returns : goal.returns
returns c =
    grind (arith, to_z-of_z, position_or_len_is (is_spent c.args.e c.args.b c.args.speed) c.args.points.now c.loop-i.i (pos 0, pos 0))
