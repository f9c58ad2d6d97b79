use Rattle.std.proofs.Common.{sym, ◌∙◌}
use Rattle.regions.proofs.Sound.{laid_limited, laid_nodes}
use Rattle.regions.proofs.shapes.Layout.back.Goals as goal

pub side_of_station-requires-clause-limits : goal.side_of_station-requires-clause-limits
side_of_station-requires-clause-limits c = laid_limited c.args.self.now c.args.mesh.now c.requires.laid_out

pub side_of_station-requires-else-index-eq0-clause-limits : goal.side_of_station-requires-else-index-eq0-clause-limits
side_of_station-requires-else-index-eq0-clause-limits c = laid_limited c.args.self.now c.args.mesh.now c.requires.laid_out

pub side_of_station-requires-clause-node : goal.side_of_station-requires-clause-node
side_of_station-requires-clause-node c =
    let o = c.in-OfSection in
    (laid_nodes c.args.self.now c.args.mesh.now c.args.strand o.pipe o.place o.reaches o.left o.right c.requires.laid_out c.requires.inside (sym c.shape_at.ensures ∙ o.is)).at_left

pub side_of_station-requires-else-index-eq0-clause-node : goal.side_of_station-requires-else-index-eq0-clause-node
side_of_station-requires-else-index-eq0-clause-node c =
    let o = c.in-OfSection in
    (laid_nodes c.args.self.now c.args.mesh.now c.args.strand o.pipe o.place o.reaches o.left o.right c.requires.laid_out c.requires.inside (sym c.shape_at.ensures ∙ o.is)).at_right
