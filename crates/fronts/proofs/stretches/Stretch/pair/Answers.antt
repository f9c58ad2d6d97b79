use Rattle.std.proofs.Common.{◌∙◌}
use Rattle.fronts.proofs.Pairing.{next-kept}
use Rattle.fronts.proofs.stretches.Stretch.pair.Goals as goal

pub returns-clause-second : goal.returns-clause-second
returns-clause-second c = c.pair_of.ensures.second ∙ next-kept c.args.self.now c.args.step c.args.place
