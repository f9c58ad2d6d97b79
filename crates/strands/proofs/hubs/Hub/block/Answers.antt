use Rattle.std.proofs.Common.{subst, sym}
use Rattle.std.proofs.lemmas.List.{get_or_read}
use Rattle.strands.specs.Beside.{station_tells}
use Rattle.strands.specs.Spokes.{IsSpokeAfter, spoke_inner}
use Rattle.strands.specs.Blocks.{HasPoints}
use Rattle.strands.proofs.hubs.Hub.block.Goals as goal

pub returns-clause-points : goal.returns-clause-points
returns-clause-points c = λ law h d.
    let w = c.args.window in
    let s = c.args.start in
    let x = c.index.result.now in
    let read = get_or_read c.args.self.now.spokes.items c.args.side x c.requires.there
    c.index.ensures in
    subst (λ z. HasPoints w (spoke_inner law w s z) (station_tells c.block.result)) (read d)
    (c.block.ensures.points law (subst (IsSpokeAfter law w s w) (sym (read x))
    (h.spokes c.args.side x c.requires.there)))
