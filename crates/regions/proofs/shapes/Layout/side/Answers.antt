use Rattle.regions.proofs.Sound.{laid_limited}
use Rattle.regions.proofs.shapes.Layout.side.Goals as goal

pub section_at_end-requires-clause-limits : goal.section_at_end-requires-clause-limits
section_at_end-requires-clause-limits c = laid_limited c.args.self.now c.args.mesh.now c.requires.laid_out
