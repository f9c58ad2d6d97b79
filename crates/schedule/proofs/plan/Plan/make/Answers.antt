use Rattle.regions.proofs.Sound.{laid_mutual, laid_whole}
use Rattle.schedule.proofs.plan.Plan.make.Goals as goal

pub make-requires-clause-whole : goal.make-requires-clause-whole
make-requires-clause-whole c = laid_whole c.args.layout.now c.args.mesh.now c.requires.laid_out

pub make-requires-clause-mutual : goal.make-requires-clause-mutual
make-requires-clause-mutual c = laid_mutual c.args.layout.now c.args.mesh.now c.requires.laid_out
