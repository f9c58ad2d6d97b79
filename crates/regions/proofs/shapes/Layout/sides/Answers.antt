use Rattle.regions.proofs.Sound.{laid_limited}
use Rattle.regions.proofs.shapes.Layout.sides.Goals as goal

pub count_ends-requires : goal.count_ends-requires
count_ends-requires c = laid_limited c.args.self.now c.args.mesh.now c.requires.laid_out
