use Rattle.fixed_num.proofs.RootSteps.{first_above}
use Rattle.fixed_num.proofs.roots.first_guess.Goals as goal

pub returns-clause-above : goal.returns-clause-above
returns-clause-above c = first_above c.args.n c.requires.some c.requires.size
