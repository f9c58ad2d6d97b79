use Rattle.fronts.proofs.Taking.{rows-taken}
use Rattle.fronts.proofs.stretches.Stretch.take.Goals as goal

pub returns : goal.returns
returns c =
    rows-taken c.args.place c.args.other.now c.args.from c.args.count c.args.self.now
    c.take_row.new.self c.take_row-2.new.self
    c.take_row.ensures c.take_row-2.ensures
