use Rattle.std.proofs.Common.{◌+◌, ◌-◌, arith}
use Rattle.fronts.proofs.Taking.{copied-mid}
use Rattle.fronts.proofs.rows.copy_spots.Goals as goal

pub returns : goal.returns
returns c =
    copied-mid c.args.place c.args.from c.args.count (c.args.place + c.args.count - c.args.place)
    (c.args.from + c.args.count - c.args.from) c.args.spots.now c.args.other.now
    c.copy_from_slice.new.self c.requires.inside c.requires.there (omega arith) (omega arith)
    c.copy_from_slice.ensures.after
