use Rattle.fixed_num.proofs.Shifts.{one_shifted}
use Rattle.fixed_num.proofs.reciprocals.middle.Goals as goal

pub returns : goal.returns
returns c = one_shifted c.args.shift c.requires
