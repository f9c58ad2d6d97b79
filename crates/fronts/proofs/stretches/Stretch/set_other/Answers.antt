use Rattle.fronts.proofs.Keeping.{set-of, set-then}
use Rattle.fronts.proofs.stretches.Stretch.set_other.Goals as goal

pub returns : goal.returns
returns c =
    set-then c.args.slot c.args.point.now c.args.self.now c.make_wild.new.self c.set_parts.new.self c.make_wild.ensures.kept
    (set-of c.args.slot _ c.args.point.now c.make_wild.new.self c.set_parts.new.self c.apart.ensures c.set_parts.ensures)
