use Rattle.fronts.proofs.Keeping.{kept-still}
use Rattle.fronts.proofs.stretches.Stretch.make_wild.Goals as goal

pub returns-else-self-clause-kept : goal.returns-else-self-clause-kept
returns-else-self-clause-kept c = kept-still c.args.self.now
